-- `write_decimal` ends: the number falls with each call of itself. Assumes nothing.
use Rattle.text.proofs.+write_decimal.Given as goal

abbrev pub decreases-write_decimal : goal.decreases-write_decimal
decreases-write_decimal l = l.x
