-- The colours of a row, as the last rows of the links tell them. Assumes nothing.
use Rattle.std.specs.Prelude.{◌≡◌, ℕ, ◌+◌, ◌-◌, ◌<◌, ◌≤◌, Bool, cond, ◌&&◌, ◌≢◌, List, ◌==◌, nat_le, nat_lt, Option, MatchOption}
use Rattle.basics.specs.Tools.{each}
use Rattle.method.specs.Sheet.{State, at, red, blue, taken, open', run_from, run_past, paint}
use Rattle.rows.specs.declared.colours.Run.{Run}

-- the last row of a blue link
abbrev pub blue_row : ℕ
blue_row = 65535

-- the colour in row k of a link with last row d: open if that row is over, else blue or not; red and taken are not told apart
unfoldable pub shown_as : ℕ → ℕ → ℕ
shown_as k d = cond (nat_lt d k) open' (cond (d == blue_row) blue red)

-- the colours in row k of n links with last rows D
unfoldable pub shown : ℕ → ℕ → List ℕ → List ℕ
shown n k D = each (λ x. shown_as k (at D x)) 1 n

-- colours in which taken links count as red
unfoldable pub alike : ℕ → List ℕ → List ℕ
alike n K = each (λ x. cond (at K x == taken) red (at K x)) 1 n

-- a state in which taken links count as red: what may be told from last rows
abbrev pub plain : ℕ → State → State
plain n s = record { colours = alike n s.colours; rows = s.rows }

-- how row k may move last rows: one that is not over stays, and one that is over becomes k at most, or blue
pub record LastsMoved (n k : ℕ) (D D' : List ℕ) : Type 0 where
  pub stays : (x : ℕ) → 1 ≤ x → x ≤ n → k ≤ at D x → at D' x ≡ at D x
  pub low : (x : ℕ) → 1 ≤ x → x ≤ n → at D x < k → at D' x ≢ blue_row → at D' x ≤ k

-- all links from r to before l are blue, and link r − 1 is not
pub record BlueTo (K : List ℕ) (l r : ℕ) : Type 0 where
  pub pos : 1 ≤ r
  pub below : r ≤ l
  pub blues : (x : ℕ) → r ≤ x → x < l → at K x ≡ blue
  pub stop : at K (r - 1) ≢ blue

-- l is the first open link of row k, for links with last rows D
abbrev pub AtRun : ℕ → ℕ → ℕ → List ℕ → Type 0
AtRun n k l D = (1 ≤ k) × (k < 65535) × (l ≤ n) × (l ≡ run_from n (shown n k D))

-- what is told of a link that was sought, of n: the link, or none where x is past the last
abbrev pub LinkTold : ℕ → ℕ → Option ℕ → Type 0
LinkTold n x told = MatchOption told (n < x) (λ l. (l ≡ x) × (l ≤ n))

-- the leftmost run of open links with its reach over the blue links beside it
pub record Around (n : ℕ) (K : List ℕ) (run : Run) : Type 0 where
  pub starts : run.from ≡ run_from n K
  pub ends : run.past ≡ run_past n K
  pub to_left : BlueTo K run.from run.low
  pub past_high : run.past ≤ run.high
  pub on_line : run.high ≤ n + 1
  pub blues : (x : ℕ) → run.past ≤ x → x < run.high → at K x ≡ blue
  pub stop : at K run.high ≢ blue

-- whether link x is one from `start` to before `past`
unfoldable pub between : ℕ → ℕ → ℕ → Bool
between start past x = nat_le start x && nat_lt x past

-- the links from `start` to before `past` get a last row
abbrev pub painted : ℕ → ℕ → ℕ → ℕ → List ℕ → List ℕ
painted n start past v D = paint n (between start past) v D
