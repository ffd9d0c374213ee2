-- What is proved of the field and the S-box, as statements. The proofs are in proofs/laws.
use Rattle.std.specs.Prelude.{◌≡◌, ℕ, ◌<◌}
use Rattle.std.specs.Int.Bits.{bit_xor}
use Rattle.field.specs.Field.{mul, inverse}
use Rattle.field.specs.Sbox.{affine, sbox_of, inv_sbox_of}

-- The product of two elements is an element.
abbrev pub Closed : Type 0
Closed = (a b : ℕ) → a < 256 → mul a b < 256

-- The product is commutative and associative, and 1 is neutral.
abbrev pub Commutative : Type 0
Commutative = (a b : ℕ) → a < 256 → b < 256 → mul a b ≡ mul b a

abbrev pub Associative : Type 0
Associative = (a b c : ℕ) → a < 256 → b < 256 → c < 256 → mul (mul a b) c ≡ mul a (mul b c)

abbrev pub OneNeutral : Type 0
OneNeutral = (a : ℕ) → a < 256 → mul a 1 ≡ a

-- The product distributes over the sum.
abbrev pub Distributive : Type 0
Distributive = (a x y : ℕ) → mul a (bit_xor x y) ≡ bit_xor (mul a x) (mul a y)

-- An element other than 0 times its inverse is 1.
abbrev pub InverseRight : Type 0
InverseRight = (x : ℕ) → 0 < x → x < 256 → mul x (inverse x) ≡ 1

-- The inverse is unique.
abbrev pub InverseUnique : Type 0
InverseUnique = (x y : ℕ) → x < 256 → y < 256 → mul x y ≡ 1 → y ≡ inverse x

-- The S-box rule of 5.1.1: S(x) is the affine map of any y that is inverse to x, and S(0) is that of 0.
abbrev pub SboxRule : Type 0
SboxRule = (x y : ℕ) → x < 256 → y < 256 → mul x y ≡ 1 → sbox_of x ≡ affine y

abbrev pub SboxZero : Type 0
SboxZero = sbox_of 0 ≡ affine 0

-- The inverse S-box undoes the S-box, and the S-box the inverse S-box.
abbrev pub InvSboxSbox : Type 0
InvSboxSbox = (x : ℕ) → x < 256 → inv_sbox_of (sbox_of x) ≡ x

abbrev pub SboxInvSbox : Type 0
SboxInvSbox = (y : ℕ) → y < 256 → sbox_of (inv_sbox_of y) ≡ y
