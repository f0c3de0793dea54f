-- The remainder by which test 7 sorts the numbers into chains, and the chains. Assumes nothing.
use Rattle.std.specs.Prelude.{ℕ, ◌≡◌, ◌+◌, ◌/◌, ◌%◌, ◌<◌, List, get_or}
use Rattle.basics.specs.Lasts.{last_place}
use Rattle.records.specs.Records.{number_in}

-- the digits of a number to the base 4,096, added up, mod 4,096
unfoldable pub remainder_of : ℕ → ℕ
remainder_of x = (x % 4096 + x / 4096 % 4096 + x / 16777216) % 4096

-- the remainder of record d
abbrev pub rem : List ℕ → ℕ → ℕ
rem s d = remainder_of (number_in s d)

-- the chain of record j: `head` tells the last record before it with its remainder, and `next` the one before each record
pub record Chain (s : List ℕ) (j head : ℕ) (next : List ℕ) : Type 0 where
  pub last : head ≡ last_place (rem s) (rem s j) j
  pub links : (d : ℕ) → d < j → get_or next d 0 ≡ last_place (rem s) (rem s d) d
