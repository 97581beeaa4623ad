-- Where something else than blanks and comments stands.
use Rattle.std.proofs.Common.{◌≡◌, ◌<◌, ◌≤◌, ◌+◌, ◌-◌, ℕ, zero, suc, List, [], ◌∷◌, ◌++◌, length, take, drop, Option, Some, None, sym, refl, ap, ◌∙◌, subst, arith, length-append, length-drop}
use Rattle.std.proofs.lemmas.List.{take_all}
use Rattle.std.specs.Prelude.{IsNone, IfSome}
use denote.Bor.{Bor}
use Rattle.estelle_tree.specs.Lexed.{IsSeparator, IsBlank, FirstOther}
use Rattle.estelle_lexer.specs.declared.front.Piece.TheVariants as piece
use Rattle.estelle_lexer.specs.Front.{Cut, cut, now_of}
use Rattle.estelle_lexer.specs.Lex.{run_of}
use Rattle.estelle_lexer.specs.Blank.{separator_of, skipping, other_from}
use Rattle.estelle_lexer.proofs.Fronts.{separator_cut}
use Rattle.estelle_lexer.proofs.Lexes.{cut_stands, cut_shorter, separator_some, shorter}

separator_is : (c : Cut) (after : List ℕ) → separator_of c ≡ Some after → c ≡ Some (piece.Separator, after)
separator_is None after e = absurd (cc)
separator_is (Some (piece.Separator, left)) after e = let same : left ≡ after = cc in ap (λ t. Some (piece.Separator, t)) same
separator_is (Some (piece.Word, left)) after e = absurd (cc)
separator_is (Some (piece.Number n, left)) after e = absurd (cc)
separator_is (Some (piece.Char c, left)) after e = absurd (cc)
separator_is (Some (piece.Symbol s, left)) after e = absurd (cc)

pub separator_shorter : (text : List ℕ) (r : Option (Bor (List ℕ))) → now_of r ≡ separator_of (cut text) → IfSome r (λ after. length after.now < length text)
separator_shorter text None e = tt
separator_shorter text (Some after) e = cut_shorter text after.now piece.Separator (separator_is (cut text) after.now (sym e))

no_separator : (text : List ℕ) → separator_of (cut text) ≡ None → (run after : List ℕ) → text ≡ run ++ after → IsSeparator run → ⊥
no_separator text e run after same is = let found = ap (λ t. separator_of (cut t)) same ∙ ap separator_of (separator_cut is after) in cc

-- what the answer says
abbrev Finds : ℕ → List ℕ → Option ℕ → Type 0
Finds at text None = IsBlank text
Finds at text (Some place) = FirstOther at text place

more_finds : (at : ℕ) (run after : List ℕ) (o : Option ℕ) → IsSeparator run → Finds (at + (length (run ++ after) - length after)) after o → Finds at (run ++ after) o
more_finds at run after None is h = IsBlank.separator run after is h
more_finds at run after (Some place) is h =
    let n : at + (length (run ++ after) - length after) ≡ at + length run = omega (arith, length-append run after) in
    FirstOther.separator at run after place is (subst (λ k. FirstOther k after place) n h)

FindsAll : (ℕ → List ℕ → Option ℕ) → ℕ → Type 0
FindsAll go n = (at : ℕ) (text : List ℕ) → length text ≤ n → Finds at text (go at text)

taken_finds : (go : ℕ → List ℕ → Option ℕ) (n : ℕ) → FindsAll go n → (at : ℕ) (text after : List ℕ) → length text ≤ suc n → cut text ≡ Some (piece.Separator, after) → Finds at text (go (at + (length text - length after)) after)
unfolding FindsAll
taken_finds go n all at text after fits e =
    let s = cut_stands text after piece.Separator e in
    let less = cut_shorter text after piece.Separator e in
    let o = go (at + (length text - length after)) after in
    let more = all (at + (length text - length after)) after (omega arith) in
    let moved : Finds (at + (length (run_of text after ++ after) - length after)) after o = subst (λ t. Finds (at + (length t - length after)) after o) s.parts more in
    subst (λ t. Finds at t o) (sym s.parts) (more_finds at (run_of text after) after o s.stands moved)

skipping_finds : (go : ℕ → List ℕ → Option ℕ) (n : ℕ) → FindsAll go n → (at b : ℕ) (text : List ℕ) (o : Option (List ℕ)) → length (b ∷ text) ≤ suc n → separator_of (cut (b ∷ text)) ≡ o → Finds at (b ∷ text) (skipping go at (b ∷ text) o)
skipping_finds go n all at b text None fits e = FirstOther.here at (b ∷ text) (λ none. cc) (no_separator (b ∷ text) e)
skipping_finds go n all at b text (Some after) fits e = taken_finds go n all at (b ∷ text) after fits (separator_is (cut (b ∷ text)) after e)

finds : (n : ℕ) → FindsAll (other_from n) n
unfolding other_from FindsAll
finds zero at [] fits = IsBlank.none
finds zero at (b ∷ text) fits = absurd (omega arith)
finds (suc n) at [] fits = IsBlank.none
finds (suc n) at (b ∷ text) fits = skipping_finds (other_from n) n (finds n) at b text (separator_of (cut (b ∷ text))) fits refl

pub other_step : (n at : ℕ) (text after : List ℕ) → separator_of (cut text) ≡ Some after → other_from (suc n) at text ≡ other_from n (at + (length text - length after)) after
unfolding other_from
other_step n at [] after e = absurd (let less = cut_shorter [] after piece.Separator (separator_is (cut []) after e) in omega arith)
other_step n at (b ∷ text) after e = rw e

pub other_stop : (n at : ℕ) (text : List ℕ) → 0 < length text → separator_of (cut text) ≡ None → other_from (suc n) at text ≡ Some at
unfolding other_from
other_stop n at [] some e = absurd (omega arith)
other_stop n at (b ∷ text) some e = rw e

separator_step : (n at : ℕ) (run after : List ℕ) → IsSeparator run → other_from (suc n) at (run ++ after) ≡ other_from n (at + length run) after
separator_step n at run after is =
    let m : at + (length (run ++ after) - length after) ≡ at + length run = omega (arith, length-append run after) in
    other_step n at (run ++ after) after (ap separator_of (separator_cut is after)) ∙ ap (λ k. other_from n k after) m

blank_found : {text : List ℕ} → IsBlank text → (n at : ℕ) → length text ≤ n → other_from n at text ≡ None
unfolding other_from
blank_found IsBlank.none zero at fits = refl
blank_found IsBlank.none (suc n) at fits = refl
blank_found (IsBlank.separator run after is more) zero at fits = absurd (let less = shorter run after (separator_some is) in omega arith)
blank_found (IsBlank.separator run after is more) (suc n) at fits =
    let less = shorter run after (separator_some is) in
    separator_step n at run after is ∙ blank_found more n (at + length run) (omega arith)

other_found : {at : ℕ} {text : List ℕ} {place : ℕ} → FirstOther at text place → (n : ℕ) → length text ≤ n → other_from n at text ≡ Some place
unfolding other_from
other_found (FirstOther.here at [] some none) n fits = absurd (some refl)
other_found (FirstOther.here at (b ∷ text) some none) zero fits = absurd (omega arith)
other_found (FirstOther.here at (b ∷ text) some none) (suc n) fits = go (separator_of (cut (b ∷ text))) refl
  where
    go : (o : Option (List ℕ)) → separator_of (cut (b ∷ text)) ≡ o → skipping (other_from n) at (b ∷ text) (separator_of (cut (b ∷ text))) ≡ Some at
    go None e = rw e
    go (Some after) e =
        let s = cut_stands (b ∷ text) after piece.Separator (separator_is (cut (b ∷ text)) after e) in
        absurd (none (run_of (b ∷ text) after) after s.parts s.stands)
other_found (FirstOther.separator at run after place is more) zero fits = absurd (let less = shorter run after (separator_some is) in omega arith)
other_found (FirstOther.separator at run after place is more) (suc n) fits =
    let less = shorter run after (separator_some is) in
    separator_step n at run after is ∙ other_found more n (omega arith)

other_below : {at : ℕ} {text : List ℕ} {place : ℕ} → FirstOther at text place → place < at + length text
other_below (FirstOther.here at [] some none) = absurd (some refl)
other_below (FirstOther.here at (b ∷ text) some none) = omega arith
other_below (FirstOther.separator at run after place is more) = let h = other_below more in omega (arith, length-append run after)

-- ---- the answer

module _ (text : List ℕ) (at : ℕ) (r : Option ℕ) (same : r ≡ other_from (length text) at text) where
  answer_finds : Finds at text r
  unfolding FindsAll
  answer_finds = subst (Finds at text) (sym same) (finds (length text) at text (omega arith))

  pub answer_blank : (IsNone r → IsBlank text) × (IsBlank text → IsNone r)
  answer_blank = (blank r answer_finds, λ h. is_none r (same ∙ blank_found h (length text) at (omega arith)))
    where
      blank : (o : Option ℕ) → Finds at text o → IsNone o → IsBlank text
      blank None h none = h
      blank (Some place) h none = absurd (cc)

      is_none : (o : Option ℕ) → o ≡ None → IsNone o
      is_none None e = refl
      is_none (Some place) e = absurd (cc)

  pub answer_other : (place : ℕ) → (r ≡ Some place → FirstOther at text place) × (FirstOther at text place → r ≡ Some place)
  answer_other place = (λ e. subst (Finds at text) e answer_finds, λ h. same ∙ other_found h (length text) (omega arith))

  pub answer_within : IfSome r (λ place. place < at + length text)
  answer_within = go r answer_finds
    where
      go : (o : Option ℕ) → Finds at text o → IfSome o (λ place. place < at + length text)
      go None h = tt
      go (Some place) h = other_below h

-- ---- the loop

module _ (r : Option ℕ) (at : ℕ) (text : List ℕ) (n turn : ℕ) (room : turn < n) (same : r ≡ other_from (n - turn) at text) where
  later : r ≡ other_from (suc (n - (turn + 1))) at text
  later = let turns : n - turn ≡ suc (n - (turn + 1)) = omega arith in same ∙ ap (λ m. other_from m at text) turns

  pub turn_empty : text ≡ [] → r ≡ None
  unfolding other_from
  turn_empty e = later ∙ rw e

  pub turn_other : 0 < length text → separator_of (cut text) ≡ None → r ≡ Some at
  turn_other some e = later ∙ other_stop (n - (turn + 1)) at text some e

  pub turn_separator : (after : List ℕ) → separator_of (cut text) ≡ Some after → r ≡ other_from (n - (turn + 1)) (at + (length text - length after)) after
  turn_separator after e = later ∙ other_step (n - (turn + 1)) at text after e

pub turn_over : (r : Option ℕ) (at : ℕ) (text : List ℕ) (n turn : ℕ) → n ≤ turn → r ≡ other_from (n - turn) at text → r ≡ None
unfolding other_from
turn_over r at text n turn over same = let none : n - turn ≡ 0 = omega arith in same ∙ ap (λ m. other_from m at text) none

pub slice_all : (at : ℕ) (bytes : List ℕ) (r : Option ℕ) → (let text = take (length bytes - at) (drop at bytes) in r ≡ other_from (length text) at text) → r ≡ other_from (length (drop at bytes)) at (drop at bytes)
slice_all at bytes r e =
    let whole : take (length bytes - at) (drop at bytes) ≡ drop at bytes = take_all (length bytes - at) (drop at bytes) (omega (arith, length-drop at bytes)) in
    e ∙ ap (λ t. other_from (length t) at t) whole

pub place_within : (at : ℕ) (bytes : List ℕ) (r : Option ℕ) → at ≤ length bytes → IfSome r (λ place. place < at + length (drop at bytes)) → IfSome r (λ place. place < length bytes)
place_within at bytes None low h = tt
place_within at bytes (Some place) low h = omega (arith, length-drop at bytes)
