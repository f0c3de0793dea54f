-- The layers by c(i) alone: f i is c(i), and the layers are 1 to `top`. These follow `layer` and `layers` of the method. Assumes nothing.
use Rattle.std.specs.Prelude.{ℕ, zero, suc, ◌+◌, ◌-◌, ◌*◌, ◌≤◌, ◌<◌, Bool, Option, None, Some, List, [], ◌++◌, ◌≡◌, length, get_or, take, leb}
use Rattle.std.specs.Bool.{then_some}
use Rattle.records.specs.Area.{spare_in}
use Rattle.records.specs.Bytes.{cells_of}
use Rattle.method.specs.Fibres.{runs}
use Rattle.method.specs.Line.{Fibre}
use Rattle.method.specs.Sheet.{at}

-- whether link i reaches t: c(i) is t or more
unfoldable pub reaches : (ℕ → ℕ) → ℕ → ℕ → Bool
reaches f t i = leb t (f i)

-- the runs of layer h
unfoldable pub layer_by : (ℕ → ℕ) → ℕ → ℕ → ℕ → List Fibre
layer_by f n top h = runs h (reaches f (top + 1 - h)) 1 n

-- the runs of layers 1 to h
unfoldable pub layers_by : (ℕ → ℕ) → ℕ → ℕ → ℕ → List Fibre
layers_by f n top zero = []
layers_by f n top (suc h) = layers_by f n top h ++ layer_by f n top (suc h)

-- the runs of layer h, by the c(i) that the first cells of the work area have
abbrev pub layer_in : ℕ → ℕ → ℕ → List ℕ → List Fibre
layer_in n top h work = layer_by (at (cells_of work)) n top h

-- the runs of all layers, by the same
abbrev pub layers_in : ℕ → ℕ → List ℕ → List Fibre
layers_in n top work = layers_by (at (cells_of work)) n top top

-- the work area has a cell for each link, and h is one of the layers
pub record HasLayer (n top h : ℕ) (work : List ℕ) : Type 0 where
  pub cells : 2 * n ≤ length work
  pub line : n ≤ 512
  pub low : 1 ≤ h
  pub high : h ≤ top
  pub few : top ≤ 65535

-- the work area has its four parts, for n links and m circuits, and there are no more layers than circuits
pub record HasParts (n m top : ℕ) (work : List ℕ) : Type 0 where
  pub long : length work ≡ 4 * n + 4 * m
  pub line : n ≤ 512
  pub few : m ≤ 2048
  pub layers : top ≤ m

-- the spare cells of C' have, for each of the first k layers, the number of pairs before it; the cells before them are as in C
pub record Spared (n m top k : ℕ) (C C' : List ℕ) : Type 0 where
  pub kept : take (2 * n + m) C' ≡ take (2 * n + m) C
  pub starts : (h : ℕ) → h < k → get_or (spare_in n m C') h 0 ≡ length (layers_by (at C) n top h)

-- link l, if it is on a line of n links
abbrev pub on_line : ℕ → ℕ → Option ℕ
on_line n l = then_some (leb l n) l

-- the link that is told, or the one past the line
abbrev pub link_or_end : ℕ → Option ℕ → ℕ
link_or_end n None = n + 1
link_or_end n (Some l) = l
