-- Fields that are one word: numbers, names, and the names of faults.
use Rattle.std.proofs.Common.{◌≡◌, ℕ, ◌-◌, ◌<◌, ◌^◌, true, false, if◌then◌else◌, List, [], ◌∷◌, ◌++◌, length, drop, take, map, ap, subst, ◌∙◌, sym, refl, arith, length-take}
use Rattle.std.specs.List.{list_all}
use Rattle.std.specs.Prelude.{codes}
use Rattle.std.specs.Fmt.{decimal}
use Rattle.std.specs.Str.{bytes_eq}
use Rattle.std.specs.Char.{is_ascii_alphabetic, to_ascii_lowercase}
use Rattle.std.proofs.lemmas.Bool.{false≢true}
use Rattle.std.proofs.lemmas.Fmt.{decimal_injective, decimal_nonempty}
use Rattle.pascal_values.specs.declared.fault.Fault as fault
use Rattle.pascal_values.specs.declared.fault.Fault.TheVariants as kind
use Rattle.estelle_tree.specs.Kind.{is_identifier}
use Rattle.estelle_tree.specs.Lexed.{first_is, is_word_byte}
use Rattle.estelle_model.specs.Trace.{kind_text}
use Rattle.trace_text.specs.Forms.{IsName, IsBetween}
use Rattle.trace_text.specs.Fields.{Anything, EndsWord, Stands, Lacks, IsRun, name_text}
use Rattle.trace_text.proofs.Runs.{runs_apart}
use Rattle.trace_text.proofs.FieldLemmas.{Unique}
use Rattle.trace_text.proofs.NumberLemmas.{decimal_wordy}

abbrev pub the_run : List ℕ → ℕ → ℕ → List ℕ
the_run bytes at_ end_ = take (end_ - at_) (drop at_ bytes)

-- a field that is a word is the run at its place
module _ {X : Type 0} (f : X → List ℕ) (F : X → Type 0) (wordy : (x : X) → F x → list_all is_word_byte (f x) ≡ true) where
  pub words_unique : ((x y : X) → F x → F y → f x ≡ f y → x ≡ y) → Unique f F EndsWord
  words_unique one x y s t here there ends stop e =
      let o = runs_apart is_word_byte (f x) (f y) s t (wordy x here) (wordy y there) ends stop e in
      (one x y here there o.0, o.1)

  pub no_word_reads : (bytes : List ℕ) (at_ end_ : ℕ) → IsRun bytes at_ end_ → ((x : X) → F x → ¬ (f x ≡ the_run bytes at_ end_)) → Lacks f F EndsWord (drop at_ bytes)
  no_word_reads bytes at_ end_ run none y t form ends e =
      none y form (runs_apart is_word_byte (f y) (the_run bytes at_ end_) t (drop end_ bytes) (wordy y form) run.all ends run.longest (sym e ∙ run.is)).0

  pub word_stands : (bytes : List ℕ) (at_ end_ : ℕ) → IsRun bytes at_ end_ → (x : X) → F x → f x ≡ the_run bytes at_ end_ → 0 < length (f x) → Stands f F EndsWord bytes at_ x end_
  word_stands bytes at_ end_ run x form same some = record {
    form = form;
    goes = omega (arith, some, ap length same, length-take (end_ - at_) (drop at_ bytes));
    within = run.within;
    is = run.is ∙ ap (λ w. w ++ drop end_ bytes) (sym same);
    ends = run.longest;
  }

-- ---- numbers

module _ (least greatest : ℕ) (g_in : greatest < 2 ^ 64) where
  number_wordy : (n : ℕ) → IsBetween least greatest n → list_all is_word_byte (decimal n) ≡ true
  number_wordy n b = decimal_wordy n (omega (arith, b.1))

  pub numbers_unique : Unique decimal (IsBetween least greatest) EndsWord
  numbers_unique = words_unique decimal (IsBetween least greatest) number_wordy (λ m n b c. decimal_injective m n (omega (arith, b.1)) (omega (arith, c.1)))

  module _ (bytes : List ℕ) (at_ end_ : ℕ) (run : IsRun bytes at_ end_) where
    pub no_number : ((n : ℕ) → n < 2 ^ 64 → ¬ (decimal n ≡ the_run bytes at_ end_)) → Lacks decimal (IsBetween least greatest) EndsWord (drop at_ bytes)
    no_number none = no_word_reads decimal (IsBetween least greatest) number_wordy bytes at_ end_ run (λ n b. none n (omega (arith, b.1)))

    module _ (n : ℕ) (is : (n < 2 ^ 64) × (decimal n ≡ the_run bytes at_ end_)) where
      pub number_outside : ¬ (IsBetween least greatest n) → Lacks decimal (IsBetween least greatest) EndsWord (drop at_ bytes)
      number_outside not = no_word_reads decimal (IsBetween least greatest) number_wordy bytes at_ end_ run
          (λ m b e. not (subst (IsBetween least greatest) (decimal_injective m n (omega (arith, b.1)) is.0 (e ∙ sym is.1)) b))

      pub number_stands : IsBetween least greatest n → Stands decimal (IsBetween least greatest) EndsWord bytes at_ n end_
      number_stands b = word_stands decimal (IsBetween least greatest) number_wordy bytes at_ end_ run n b is.1 (decimal_nonempty n is.0)

-- ---- names

pub name_wordy : (word : List ℕ) → IsName word → list_all is_word_byte (name_text word) ≡ true
name_wordy word h = h.all

pub names_unique : Unique name_text IsName EndsWord
names_unique = words_unique name_text IsName name_wordy (λ x y h k e. e)

some_letter : (word : List ℕ) → first_is is_ascii_alphabetic word ≡ true → 0 < length word
some_letter [] e = absurd (false≢true e)
some_letter (c ∷ cs) e = omega arith

module _ (bytes : List ℕ) (at_ end_ : ℕ) (run : IsRun bytes at_ end_) where
  pub no_letter : first_is is_ascii_alphabetic (the_run bytes at_ end_) ≡ false → Lacks name_text IsName EndsWord (drop at_ bytes)
  no_letter none = no_word_reads name_text IsName name_wordy bytes at_ end_ run (λ y form e. false≢true (sym none ∙ (ap (first_is is_ascii_alphabetic) (sym e) ∙ form.letter)))

  module _ (word : List ℕ) (lower : word ≡ map to_ascii_lowercase (the_run bytes at_ end_)) where
    pub no_name : (word ≡ the_run bytes at_ end_ → is_identifier word ≡ true → ⊥) → Lacks name_text IsName EndsWord (drop at_ bytes)
    no_name not = no_word_reads name_text IsName name_wordy bytes at_ end_ run
        (λ y form e. let w : word ≡ the_run bytes at_ end_ = lower ∙ (ap (map to_ascii_lowercase) (sym e) ∙ (form.lower ∙ e)) in not w (ap is_identifier (w ∙ sym e) ∙ form.free))

    pub name_stands : first_is is_ascii_alphabetic (the_run bytes at_ end_) ≡ true → (word ≡ the_run bytes at_ end_) × (is_identifier word ≡ true) → Stands name_text IsName EndsWord bytes at_ word end_
    name_stands letter same =
        let first : first_is is_ascii_alphabetic word ≡ true = ap (first_is is_ascii_alphabetic) same.0 ∙ letter in
        word_stands name_text IsName name_wordy bytes at_ end_ run word
        (record { letter = first; all = ap (list_all is_word_byte) same.0 ∙ run.all; lower = ap (map to_ascii_lowercase) same.0 ∙ sym lower; free = same.1 })
        same.0 (some_letter word first)

-- ---- faults

pub kind_wordy : (k : fault.Fault) → Anything k → list_all is_word_byte (kind_text k) ≡ true
kind_wordy kind.DivideByZero a = refl
kind_wordy kind.ModNotPositive a = refl
kind_wordy kind.Overflow a = refl
kind_wordy kind.Range a = refl
kind_wordy kind.Index a = refl
kind_wordy kind.Unset a = refl
kind_wordy kind.NoCase a = refl
kind_wordy kind.StepLimit a = refl
kind_wordy kind.CallDepth a = refl
kind_wordy kind.NoModule a = refl
kind_wordy kind.ModuleTaken a = refl
kind_wordy kind.LinkTaken a = refl
kind_wordy kind.LinkAbsent a = refl
kind_wordy kind.DelayRange a = refl

some_kind : (k : fault.Fault) → 0 < length (kind_text k)
some_kind kind.DivideByZero = omega arith
some_kind kind.ModNotPositive = omega arith
some_kind kind.Overflow = omega arith
some_kind kind.Range = omega arith
some_kind kind.Index = omega arith
some_kind kind.Unset = omega arith
some_kind kind.NoCase = omega arith
some_kind kind.StepLimit = omega arith
some_kind kind.CallDepth = omega arith
some_kind kind.NoModule = omega arith
some_kind kind.ModuleTaken = omega arith
some_kind kind.LinkTaken = omega arith
some_kind kind.LinkAbsent = omega arith
some_kind kind.DelayRange = omega arith

-- the fault of a name, any one where there is none
named : List ℕ → fault.Fault
named w =
    if bytes_eq w (codes "DivideByZero") then kind.DivideByZero
    else (if bytes_eq w (codes "ModNotPositive") then kind.ModNotPositive
    else (if bytes_eq w (codes "Overflow") then kind.Overflow
    else (if bytes_eq w (codes "Range") then kind.Range
    else (if bytes_eq w (codes "Index") then kind.Index
    else (if bytes_eq w (codes "Unset") then kind.Unset
    else (if bytes_eq w (codes "NoCase") then kind.NoCase
    else (if bytes_eq w (codes "StepLimit") then kind.StepLimit
    else (if bytes_eq w (codes "CallDepth") then kind.CallDepth
    else (if bytes_eq w (codes "NoModule") then kind.NoModule
    else (if bytes_eq w (codes "ModuleTaken") then kind.ModuleTaken
    else (if bytes_eq w (codes "LinkTaken") then kind.LinkTaken
    else (if bytes_eq w (codes "LinkAbsent") then kind.LinkAbsent
    else kind.DelayRange))))))))))))

named_again : (k : fault.Fault) → named (kind_text k) ≡ k
unfolding named
named_again kind.DivideByZero = refl
named_again kind.ModNotPositive = refl
named_again kind.Overflow = refl
named_again kind.Range = refl
named_again kind.Index = refl
named_again kind.Unset = refl
named_again kind.NoCase = refl
named_again kind.StepLimit = refl
named_again kind.CallDepth = refl
named_again kind.NoModule = refl
named_again kind.ModuleTaken = refl
named_again kind.LinkTaken = refl
named_again kind.LinkAbsent = refl
named_again kind.DelayRange = refl

pub kinds_apart : (a b : fault.Fault) → kind_text a ≡ kind_text b → a ≡ b
kinds_apart a b e = sym (named_again a) ∙ (ap named e ∙ named_again b)

pub kinds_unique : Unique kind_text Anything EndsWord
kinds_unique = words_unique kind_text Anything kind_wordy (λ a b x y e. kinds_apart a b e)

module _ (bytes : List ℕ) (at_ end_ : ℕ) (run : IsRun bytes at_ end_) where
  pub unknown_kind : ((k : fault.Fault) → ¬ (kind_text k ≡ the_run bytes at_ end_)) → Lacks kind_text Anything EndsWord (drop at_ bytes)
  unknown_kind none = no_word_reads kind_text Anything kind_wordy bytes at_ end_ run (λ k a. none k)

  pub kind_stands : (k : fault.Fault) → kind_text k ≡ the_run bytes at_ end_ → Stands kind_text Anything EndsWord bytes at_ k end_
  kind_stands k same = word_stands kind_text Anything kind_wordy bytes at_ end_ run k tt same (some_kind k)
