-- A contract that says what an answer equals leaves room for one answer. Assumes nothing.
use mathlib.Core.Path.{◌∙◌, ◌≡◌, sym}

-- two answers that are both what the definition says are equal
pub same_answer : {A : Type 0} {one two : A} (said : A) → one ≡ said → two ≡ said → one ≡ two
same_answer said p q = p ∙ sym q
