-- What holds of the bytes that were read holds of what the source had left.
use Rattle.std.proofs.Common.{◌≡◌, ℕ, ◌≤◌, List, [], ◌++◌, length, Option, Some, None, Result, Ok, Err, sym, ap, subst, ◌∙◌, arith}
use Rattle.std.specs.Prelude.{IfOk, IfErr, OnOk, IfSome}
use Rattle.std.specs.Io.KnownBytes.{Consumes, IsAtEnd}
use Rattle.std.proofs.lemmas.List.{append-nil, length-append}
use Rattle.estelle_tree.specs.declared.tree.specification.Spec.{Spec}
use Rattle.spec_accept.specs.declared.checked.Checked.{Checked}
use Rattle.estelle_cli.specs.declared.contents.Contents.{Contents}
use Rattle.estelle_cli.specs.declared.contents.Contents.TheVariants.{Alone, Traced}
use Rattle.estelle_cli.specs.declared.outcome.Stop.{Stop}
use Rattle.estelle_cli.specs.declared.outcome.Stop.TheVariants as stop
use Rattle.estelle_cli.specs.declared.outcome.Refusal.TheVariants.{TooLong, Bytes, TextAfterEnd, Syntax, Rule, BadTraceLine, NotARun}
use Rattle.estelle_cli.specs.Input.{input_limit, IsTextOf, Reads, Refuses, HasBadLine, HasWrongEntry, Misses, HasStopped}

-- a text is read as the specification that is accepted, which is the one that it spells
pub judged_reads : (contents : Contents) (bytes : List ℕ) (spec : Spec) (checked : Checked) → IsTextOf contents bytes spec → checked.spec ≡ spec → Reads contents bytes checked.spec
judged_reads contents bytes spec checked text same = record {
  text = subst (IsTextOf contents bytes) (sym same) text;
  kept = checked.kept;
}

line_within : (contents : Contents) (bytes : List ℕ) (n : ℕ) → HasBadLine contents bytes n → length bytes ≤ input_limit contents
line_within Alone bytes n h = absurd h
line_within (Traced budget) bytes n h = h.reads.text.read.within

entry_within : (contents : Contents) (bytes : List ℕ) (n : ℕ) → HasWrongEntry contents bytes n → length bytes ≤ input_limit contents
entry_within Alone bytes n h = absurd h
entry_within (Traced budget) bytes n h = h.tells.reads.text.read.within

module _ (contents : Contents) (bytes : List ℕ) where
  -- all has been read, unless what has been read is too long
  abbrev IsWhole : Option (List ℕ) → Type 0
  IsWhole new = length bytes ≤ input_limit contents → IsAtEnd new

  whole_input : (input rest : List ℕ) → input ≡ bytes ++ rest → rest ≡ [] → bytes ≡ input
  whole_input input rest e nil = sym (e ∙ ap (λ (r : List ℕ). bytes ++ r) nil ∙ append-nil bytes)

  of_input : (P : List ℕ → Type 0) (input rest : List ℕ) → input ≡ bytes ++ rest → IsWhole (Some rest) → length bytes ≤ input_limit contents → P bytes → P input
  of_input P input rest taken end within h = subst P (whole_input input rest taken (end within)) h

  of_left : (P : List ℕ → Type 0) (left new : Option (List ℕ)) → Consumes left new bytes → IsWhole new → length bytes ≤ input_limit contents → P bytes → IfSome left P
  of_left P None new taken end within h = tt
  of_left P (Some input) None taken end within h = absurd taken
  of_left P (Some input) (Some rest) taken end within h = of_input P input rest taken end within h

  refused_one : (left new : Option (List ℕ)) (before now : ℕ) (e : Stop) → Consumes left new bytes → IsWhole new → Misses contents bytes e → HasStopped contents left before now e
  refused_one None new before now (stop.Refused r) taken end miss = tt
  refused_one (Some input) None before now (stop.Refused r) taken end miss = absurd taken
  refused_one (Some input) (Some rest) before now (stop.Refused TooLong) taken end miss = omega (arith, ap length taken, length-append bytes rest)
  refused_one (Some input) (Some rest) before now (stop.Refused (Bytes p)) taken end miss = of_input (Refuses contents (Bytes p)) input rest taken end miss.within miss
  refused_one (Some input) (Some rest) before now (stop.Refused (TextAfterEnd p)) taken end miss = of_input (Refuses contents (TextAfterEnd p)) input rest taken end miss.within miss
  refused_one (Some input) (Some rest) before now (stop.Refused (Syntax p)) taken end miss = of_input (Refuses contents (Syntax p)) input rest taken end miss.text.read.within miss
  refused_one (Some input) (Some rest) before now (stop.Refused (Rule number p)) taken end miss = of_input (Refuses contents (Rule number p)) input rest taken end miss.text.read.within miss
  refused_one (Some input) (Some rest) before now (stop.Refused (BadTraceLine n)) taken end miss = of_input (Refuses contents (BadTraceLine n)) input rest taken end (line_within contents bytes n miss) miss
  refused_one (Some input) (Some rest) before now (stop.Refused (NotARun n)) taken end miss = of_input (Refuses contents (NotARun n)) input rest taken end (entry_within contents bytes n miss) miss
  refused_one left new before now stop.ReadFault taken end miss = absurd miss
  refused_one left new before now stop.Memory taken end miss = tt

  -- of what was read of them, where that says that they are not too long
  module _ {A : Type 0} (P : A → List ℕ → Type 0) (within : (x : A) → P x bytes → length bytes ≤ input_limit contents) where
    pub load_found : (left new : Option (List ℕ)) (r : Result A Stop) → Consumes left new bytes → IsWhole new → IfOk r (λ x. P x bytes) → IfOk r (λ x. IfSome left (P x))
    load_found left new (Ok x) taken end h = of_left (P x) left new taken end (within x h) h
    load_found left new (Err e) taken end h = tt

    pub load_end : (new : Option (List ℕ)) (r : Result A Stop) → IsWhole new → IfOk r (λ x. P x bytes) → OnOk r (IsAtEnd new)
    load_end new (Ok x) end h = end (within x h)
    load_end new (Err e) end h = tt

  pub load_cause : {A : Type 0} (left new : Option (List ℕ)) (before now : ℕ) (r : Result A Stop) → Consumes left new bytes → IsWhole new → IfErr r (Misses contents bytes) → IfErr r (HasStopped contents left before now)
  load_cause left new before now (Ok x) taken end h = tt
  load_cause left new before now (Err e) taken end h = refused_one left new before now e taken end h
