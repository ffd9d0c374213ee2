-- What the functions of this crate ask where that is more than three things. Definitions only.
use Rattle.std.specs.Prelude.{List, ◌≡◌, ℕ, ◌+◌, ◌≤◌, ◌<◌, length}
use Rattle.bundle.specs.Format.{encodings}
use Rattle.network.specs.Numbers.{layer_results}
use Rattle.network.specs.Order.{GoodWidth, xors, layer_lookups}
use Rattle.network.specs.Sizes.{size_of}
use Rattle.layout.specs.Stages.{width_of, InRounds}
use Rattle.layout.specs.declared.stage.Stage.{Stage}

-- Table j of a stage or half of nr rounds, and memory of its size.
pub record Sized (nr : ℕ) (s : Stage) (j : ℕ) (dst : List ℕ) : Type 0 where
  pub stage : InRounds nr s
  pub index : j < layer_lookups (width_of s)
  pub size : length dst ≡ size_of (width_of s) j

-- For XOR table x of a layer of width m, whose results are numbered from `first` on: `xor_table`, which `write` calls.
pub record ForXorTable (nr m first x : ℕ) (dst : List ℕ) : Type 0 where
  pub width : GoodWidth m
  pub results : first + layer_results m ≤ encodings nr
  pub index : x < xors m
  pub room : length dst ≡ 128
