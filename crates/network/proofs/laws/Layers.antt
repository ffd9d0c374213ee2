-- Laws, not definitions: layers one after the other. What is said of lookup k by going through the layers is, past the layers As, what is
-- said of lookup k - lookups of As by the layers behind them.
-- Assumes nothing.
use mathlib.Core.List.{List, [], ◌∷◌, ◌++◌, map}
use mathlib.Core.Path.{◌≡◌, refl, ap, ◌∙◌}
use Prim.Native.Nat.{ℕ, ◌+◌, ◌-◌, ◌≤◌, ◌<◌}
use native.Mathlib.Omega.{arith}
use borrow.Author.Tests.{lt-ltb, le-ltb}
use Rattle.network.specs.Lookups.{State, Shape, lookup_in, lookup_at}
use Rattle.network.specs.Numbers.{Numbers, next_numbers, numbers_after}
use Rattle.network.specs.Order.{layer_lookups}
use Rattle.network.specs.Rule.{Labels, rule_in, rule_at}
use Rattle.network.specs.Sizes.{size_of, offset_of, layer_bytes, lookups_in, bytes_in, results_in, size_in_of, offset_in}
use Rattle.network.specs.Tables.{Layer, widths_of, table_in, table_at}

abbrev pub widths_in : List Shape → List ℕ
widths_in Ss = map (λ (S : Shape). S.width) Ss

-- ---- past layers
pub past : (t n k : ℕ) → t + n + k - t ≡ n + k
past t n k = omega arith

pub lookup_past : (As Bs : List Shape) (k : ℕ) (t : List ℕ) (w : State) → lookup_at (As ++ Bs) (lookups_in (widths_in As) + k) t w ≡ lookup_at Bs k t w
unfolding lookup_at lookups_in
lookup_past [] Bs k t w = ap (λ (n : ℕ). lookup_at Bs n t w) (let e : 0 + k ≡ k = omega arith in e)
lookup_past (S ∷ As) Bs k t w =
    rw (le-ltb (layer_lookups S.width + lookups_in (widths_in As) + k) (layer_lookups S.width) (omega arith), past (layer_lookups S.width) (lookups_in (widths_in As)) k)
    (lookup_past As Bs k t w)

pub table_past : (E : ℕ → List ℕ) (As Bs : List Layer) (N : Numbers) (k : ℕ)
    → table_at E (As ++ Bs) N (lookups_in (widths_of As) + k) ≡ table_at E Bs (numbers_after (widths_of As) N) k
unfolding table_at lookups_in numbers_after
table_past E [] Bs N k = ap (table_at E Bs N) (let e : 0 + k ≡ k = omega arith in e)
table_past E (L ∷ As) Bs N k =
    rw (le-ltb (layer_lookups L.width + lookups_in (widths_of As) + k) (layer_lookups L.width) (omega arith), past (layer_lookups L.width) (lookups_in (widths_of As)) k)
    (table_past E As Bs (next_numbers L.width N) k)

pub rule_past : (E : ℕ → List ℕ) (As Bs : List Layer) (k n : ℕ) (T : Labels) → rule_at E (As ++ Bs) (lookups_in (widths_of As) + k) n T ≡ rule_at E Bs k n T
unfolding rule_at lookups_in
rule_past E [] Bs k n T = ap (λ (i : ℕ). rule_at E Bs i n T) (let e : 0 + k ≡ k = omega arith in e)
rule_past E (L ∷ As) Bs k n T =
    rw (le-ltb (layer_lookups L.width + lookups_in (widths_of As) + k) (layer_lookups L.width) (omega arith), past (layer_lookups L.width) (lookups_in (widths_of As)) k)
    (rule_past E As Bs k n T)

pub size_past : (ms ns : List ℕ) (k : ℕ) → size_in_of (ms ++ ns) (lookups_in ms + k) ≡ size_in_of ns k
unfolding size_in_of lookups_in
size_past [] ns k = ap (size_in_of ns) (let e : 0 + k ≡ k = omega arith in e)
size_past (m ∷ ms) ns k =
    rw (le-ltb (layer_lookups m + lookups_in ms + k) (layer_lookups m) (omega arith), past (layer_lookups m) (lookups_in ms) k) (size_past ms ns k)

pub offset_past : (ms ns : List ℕ) (k : ℕ) → offset_in (ms ++ ns) (lookups_in ms + k) ≡ bytes_in ms + offset_in ns k
unfolding offset_in lookups_in bytes_in
offset_past [] ns k = ap (offset_in ns) (let e : 0 + k ≡ k = omega arith in e) ∙ omega arith
offset_past (m ∷ ms) ns k =
    rw (le-ltb (layer_lookups m + lookups_in ms + k) (layer_lookups m) (omega arith), past (layer_lookups m) (lookups_in ms) k)
    (ap (λ (x : ℕ). layer_bytes m + x) (offset_past ms ns k) ∙ omega arith)

-- ---- in the first layer
pub lookup_first : (S : Shape) (Bs : List Shape) (k : ℕ) (t : List ℕ) (w : State) → k < layer_lookups S.width → lookup_at (S ∷ Bs) k t w ≡ lookup_in S k t w
unfolding lookup_at
lookup_first S Bs k t w b = rw (lt-ltb k (layer_lookups S.width) b)

pub table_first : (E : ℕ → List ℕ) (L : Layer) (Bs : List Layer) (N : Numbers) (k : ℕ) → k < layer_lookups L.width → table_at E (L ∷ Bs) N k ≡ table_in E L N k
unfolding table_at
table_first E L Bs N k b = rw (lt-ltb k (layer_lookups L.width) b)

pub rule_first : (E : ℕ → List ℕ) (L : Layer) (Bs : List Layer) (k n : ℕ) (T : Labels) → k < layer_lookups L.width → rule_at E (L ∷ Bs) k n T ≡ rule_in E L k n T
unfolding rule_at
rule_first E L Bs k n T b = rw (lt-ltb k (layer_lookups L.width) b)

pub size_first : (m : ℕ) (ns : List ℕ) (k : ℕ) → k < layer_lookups m → size_in_of (m ∷ ns) k ≡ size_of m k
unfolding size_in_of
size_first m ns k b = rw (lt-ltb k (layer_lookups m) b)

pub offset_first : (m : ℕ) (ns : List ℕ) (k : ℕ) → k < layer_lookups m → offset_in (m ∷ ns) k ≡ offset_of m k
unfolding offset_in
offset_first m ns k b = rw (lt-ltb k (layer_lookups m) b)

-- ---- past the last layer
pub lookup_none : (Ss : List Shape) (k : ℕ) (t : List ℕ) (w : State) → lookups_in (widths_in Ss) ≤ k → lookup_at Ss k t w ≡ w
unfolding lookup_at lookups_in
lookup_none [] k t w b = refl
lookup_none (S ∷ Ss) k t w b = rw (le-ltb k (layer_lookups S.width) (omega arith)) (lookup_none Ss (k - layer_lookups S.width) t w (omega arith))

pub size_none : (ms : List ℕ) (k : ℕ) → lookups_in ms ≤ k → size_in_of ms k ≡ 0
unfolding size_in_of lookups_in
size_none [] k b = refl
size_none (m ∷ ms) k b = rw (le-ltb k (layer_lookups m) (omega arith)) (size_none ms (k - layer_lookups m) (omega arith))

pub offset_none : (ms : List ℕ) (k : ℕ) → lookups_in ms ≤ k → offset_in ms k ≡ bytes_in ms
unfolding offset_in lookups_in bytes_in
offset_none [] k b = refl
offset_none (m ∷ ms) k b =
    rw (le-ltb k (layer_lookups m) (omega arith)) (ap (λ (x : ℕ). layer_bytes m + x) (offset_none ms (k - layer_lookups m) (omega arith)))

-- ---- sums over layers
pub lookups_append : (ms ns : List ℕ) → lookups_in (ms ++ ns) ≡ lookups_in ms + lookups_in ns
unfolding lookups_in
lookups_append [] ns = omega arith
lookups_append (m ∷ ms) ns = omega (arith, lookups_append ms ns)

pub bytes_append : (ms ns : List ℕ) → bytes_in (ms ++ ns) ≡ bytes_in ms + bytes_in ns
unfolding bytes_in
bytes_append [] ns = omega arith
bytes_append (m ∷ ms) ns = omega (arith, bytes_append ms ns)

pub results_append : (ms ns : List ℕ) → results_in (ms ++ ns) ≡ results_in ms + results_in ns
unfolding results_in
results_append [] ns = omega arith
results_append (m ∷ ms) ns = omega (arith, results_append ms ns)

pub numbers_append : (ms ns : List ℕ) (N : Numbers) → numbers_after (ms ++ ns) N ≡ numbers_after ns (numbers_after ms N)
unfolding numbers_after
numbers_append [] ns N = refl
numbers_append (m ∷ ms) ns N = numbers_append ms ns (next_numbers m N)

pub first_after : (ms : List ℕ) (N : Numbers) → (numbers_after ms N).first ≡ N.first + results_in ms
unfolding numbers_after next_numbers results_in
first_after [] N = omega arith
first_after (m ∷ ms) N = first_after ms (next_numbers m N) ∙ omega arith
