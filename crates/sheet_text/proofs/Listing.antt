-- R-1's listing, line by line, the refusal that only the program gives, and what a check says of the listing. Assumes nothing.
use mathlib.Core.Path.{◌≡◌, refl}
use mathlib.Core.List.{◌++◌}
use Rattle.std.specs.Prelude.{None}
use Rattle.grid.specs.Frequencies.{anchor_of, spacing_of, channel_of, frequency_of}
use Rattle.refusals.specs.declared.Reason.TheVariants.{Unread}
use Rattle.sheet_text.specs.Text.{fields, line, fibre_line, circuit_line, total_line, refusal_numbers, refusal_line, yes_line, no_line}
use Rattle.text.specs.Decimals.{decimal_in, decimal}
use Rattle.text.specs.Words.{words, codes}

-- the two fibres
pub fibres_listed : fibre_line (record { number = 1; first = 1; last = 5; layer = 2 }) ++ fibre_line (record { number = 2; first = 2; last = 5; layer = 2 })
    ≡ words "F 1 1 5 2\nF 2 2 5 2\n"
unfolding fibre_line line fields decimal decimal_in words codes
fibres_listed = refl

-- the four circuits, on grid 1
pub circuits_listed : circuit_line 1 (record { circuit = 10; fibre = 1; wavelength = 2 }) ++ circuit_line 1 (record { circuit = 20; fibre = 2; wavelength = 1 })
    ++ circuit_line 1 (record { circuit = 30; fibre = 1; wavelength = 1 }) ++ circuit_line 1 (record { circuit = 40; fibre = 1; wavelength = 2 })
    ≡ words "C 10 1 2 192200\nC 20 2 1 192100\nC 30 1 1 192100\nC 40 1 2 192200\n"
unfolding circuit_line line fields decimal decimal_in frequency_of channel_of anchor_of spacing_of words codes
circuits_listed = refl

-- the first of them on grid 2
pub circuit_listed : circuit_line 2 (record { circuit = 10; fibre = 1; wavelength = 2 }) ≡ words "C 10 1 2 192150\n"
unfolding circuit_line line fields decimal decimal_in frequency_of channel_of anchor_of spacing_of words codes
circuit_listed = refl

-- the totals
pub totals_listed : total_line 2 9 6 ≡ words "T 2 9 6\n"
unfolding total_line line fields decimal decimal_in words codes
totals_listed = refl

-- no files
pub no_files : refusal_line (record { reason = Unread; place = 0; end = None }) ≡ words "R 11 0 0\n"
unfolding refusal_line refusal_numbers line fields decimal decimal_in words codes
no_files = refl

-- the listing's plan is sound
pub yes_listed : yes_line 9 6 ≡ words "Y 9 6\n"
unfolding yes_line line fields decimal decimal_in words codes
yes_listed = refl

-- with its last assignment put on the fibre and wavelength of circuit 20 it clashes
pub no_listed : no_line 8 4 ≡ words "N 8 4\n"
unfolding no_line line fields decimal decimal_in words codes
no_listed = refl
