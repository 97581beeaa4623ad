-- A code that is faithful to a specification and of good kinds, by other names for it and its numbers.
use Rattle.std.proofs.Common.{◌≡◌, ◌∙◌, List, sym, subst, ap}
use Rattle.body_code.specs.declared.unit.CodeUnit.{CodeUnit}
use Rattle.estelle_model.specs.Subject.{Subject}
use Rattle.body_numbers.specs.declared.numbers.Numbers.{Numbers}
use Rattle.body_kinds.specs.Good.{HasGoodKinds}
use Rattle.body_machine_meaning.specs.Faithful.{IsFaithful}
use Rattle.body_program_numbers.specs.Numbering.{numbers_of}

pub faithful_still : (s t : Subject) (code : List CodeUnit) → s ≡ t → IsFaithful s (numbers_of s) code → IsFaithful t (numbers_of t) code
faithful_still s t code same h = subst (λ (x : Subject). IsFaithful x (numbers_of x) code) same h

pub kinds_still : (s t : Subject) (code : List CodeUnit) → s ≡ t → HasGoodKinds s (numbers_of s) code → HasGoodKinds t (numbers_of t) code
kinds_still s t code same h = subst (λ (x : Subject). HasGoodKinds x (numbers_of x) code) same h

pub faithful_by : (s p numbering : Subject) (n : Numbers) (code : List CodeUnit) → p ≡ s → numbering ≡ s → n ≡ numbers_of numbering → IsFaithful s (numbers_of s) code → IsFaithful p n code
faithful_by s p numbering n code same shown counted h =
    let a : s ≡ p = sym same in
    let b : numbers_of s ≡ n = sym (counted ∙ ap numbers_of shown) in
    subst (λ (m : Numbers). IsFaithful p m code) b (subst (λ (x : Subject). IsFaithful x (numbers_of s) code) a h)
