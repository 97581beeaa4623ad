-- The fields of lines, composed.
use Rattle.std.proofs.Common.{◌≡◌, ℕ, ◌+◌, ◌-◌, ◌^◌, List, [], ◌∷◌, ◌++◌, drop, ap, ◌∙◌, sym, refl, arith, append_assoc, Err}
use Rattle.std.specs.Prelude.{codes}
use Rattle.std.specs.Fmt.{decimal}
use Rattle.std.specs.List.{AllByRecursion}
use Rattle.std.proofs.lemmas.List.{append_cancel_left}
use Rattle.pascal_values.specs.declared.value.Value.{Value}
use Rattle.pascal_values.specs.Steps as steps
use Rattle.pascal_values.specs.Texts.{IsReadable}
use Rattle.estelle_tree.specs.declared.transition.Pair.{Pair}
use Rattle.estelle_model.specs.Trace.{path_text, kind_text, values_text}
use Rattle.trace_text.specs.declared.error.Missing.{Missing}
use Rattle.trace_text.specs.Forms.{IsNumber, IsPath, IsName, AreTakes}
use Rattle.trace_text.specs.Fields.{Any, Anything, EndsWord, EndsPath, Stands, Lacks, IsReading, closed, both, Both, pair_with, IsPairFrom, moment_text, takes_line, name_text, values_line}
use Rattle.trace_text.proofs.FieldLemmas.{Unique, only, missing, closed_unique, both_unique}
use Rattle.trace_text.proofs.WordLemmas.{numbers_unique, names_unique, kinds_unique}
use Rattle.trace_text.proofs.PathLemmas.{paths_unique, pairs_unique}
use Rattle.trace_text.proofs.ValueLemmas.{takes_unique, values_line_unique}

-- a byte that is no letter, digit, `_` or `/` ends a path
pub ends_path : (c : ℕ) → EndsWord (c ∷ []) → ¬ (c ≡ 47) → (t : List ℕ) → EndsPath (c ∷ t)
ends_path c word not t = (word, λ u e. not cc)

pub space_ends : EndsPath (32 ∷ [])
space_ends = ends_path 32 refl (λ e. omega arith) []

pub dot_ends : (t : List ℕ) → EndsPath (46 ∷ t)
dot_ends = ends_path 46 refl (λ e. omega arith)

-- ---- pairs and numbers with a byte behind them

pub closed_pairs_unique : (least close : ℕ) → EndsWord (close ∷ []) → Unique (closed close (pair_with 32)) (IsPairFrom least) Any
closed_pairs_unique least close ends = closed_unique (pair_with 32) (IsPairFrom least) EndsWord close (λ t. ends) (pairs_unique 32 space_ends least)

pub moments_unique : Unique decimal IsNumber EndsWord
moments_unique = numbers_unique 0 (2 ^ 64 - 1) (omega arith)

pub closed_numbers_unique : Unique (closed 10 decimal) IsNumber Any
closed_numbers_unique = closed_unique decimal IsNumber EndsWord 10 (λ t. refl) moments_unique

pub closed_kinds_unique : Unique (closed 10 kind_text) Anything Any
closed_kinds_unique = closed_unique kind_text Anything EndsWord 10 (λ t. refl) kinds_unique

-- ---- moments

moment_split : (n : ℕ) (t : List ℕ) → moment_text n ++ t ≡ codes " now " ++ (decimal n ++ (codes " takes " ++ t))
moment_split n t = ap (λ u. codes " now " ++ u) (append_assoc (decimal n) (codes " takes ") t)

pub moment_texts_unique : Unique moment_text IsNumber Any
moment_texts_unique m n s t here there ends stop e =
    let h = append_cancel_left (codes " now ") (decimal m ++ (codes " takes " ++ s)) (decimal n ++ (codes " takes " ++ t)) (sym (moment_split m s) ∙ (e ∙ moment_split n t)) in
    let o = moments_unique m n (codes " takes " ++ s) (codes " takes " ++ t) here there refl refl h in
    (o.0, append_cancel_left (codes " takes ") s t o.1)

module _ (bytes : List ℕ) (at_ : ℕ) where
  pub no_moment : steps.NoWord bytes at_ (codes " now ") → Lacks moment_text IsNumber Any (drop at_ bytes)
  no_moment none n t form stop e = none (decimal n ++ (codes " takes " ++ t)) (e ∙ moment_split n t)

  module _ (here : steps.StandsWord bytes at_ (codes " now ")) where
    behind_now : (n : ℕ) (t : List ℕ) → drop at_ bytes ≡ moment_text n ++ t → drop (at_ + 5) bytes ≡ decimal n ++ (codes " takes " ++ t)
    behind_now n t e = append_cancel_left (codes " now ") (drop (at_ + 5) bytes) (decimal n ++ (codes " takes " ++ t)) (sym here.is ∙ (e ∙ moment_split n t))

    pub moment_missing : (e : Missing) → IsReading decimal IsNumber EndsWord bytes (at_ + 5) (Err e) → IsReading moment_text IsNumber Any bytes at_ (Err e)
    moment_missing e = missing decimal IsNumber EndsWord moment_text IsNumber Any bytes (at_ + 5) at_ e (λ n t form stop is. (n, codes " takes " ++ t, form, refl, behind_now n t is))

    module _ (n mid : ℕ) (number : Stands decimal IsNumber EndsWord bytes (at_ + 5) n mid) where
      pub moment_alone : steps.NoWord bytes mid (codes " takes ") → Lacks moment_text IsNumber Any (drop at_ bytes)
      moment_alone none m t form stop e = none t (sym (only decimal IsNumber EndsWord moments_unique bytes (at_ + 5) n mid number m (codes " takes " ++ t) form refl (behind_now m t e)).1)

      pub moment_stands : steps.StandsWord bytes mid (codes " takes ") → Stands moment_text IsNumber Any bytes at_ n (mid + 7)
      moment_stands word = record {
        form = number.form;
        goes = omega (arith, number.goes);
        within = word.within;
        is = here.is ∙ (ap (λ t. codes " now " ++ t) (number.is ∙ ap (λ t. decimal n ++ t) word.is) ∙ sym (moment_split n (drop (mid + 7) bytes)));
        ends = tt;
      }

-- ---- selections, points and interactions

pub selections_unique : Unique (both moment_text takes_line) (Both IsNumber AreTakes) Any
selections_unique = both_unique moment_text IsNumber Any takes_line AreTakes Any (λ ps t form stop. tt) moment_texts_unique takes_unique

pub selection_ends : (y : ℕ × List Pair) (t : List ℕ) → Both IsNumber AreTakes y → Any t → EndsPath (both moment_text takes_line y ++ t)
selection_ends y t form stop = ends_path 32 refl (λ e. omega arith) _

pub selects_unique : Unique (both path_text (both moment_text takes_line)) (Both IsPath (Both IsNumber AreTakes)) Any
selects_unique = both_unique path_text IsPath EndsPath (both moment_text takes_line) (Both IsNumber AreTakes) Any selection_ends paths_unique selections_unique

pub faults_unique : Unique (both (closed 32 (pair_with 32)) (closed 10 kind_text)) (Both (IsPairFrom 0) Anything) Any
faults_unique = both_unique (closed 32 (pair_with 32)) (IsPairFrom 0) Any (closed 10 kind_text) Anything Any (λ k t form stop. tt) (closed_pairs_unique 0 32 refl) closed_kinds_unique

pub closed_paths_unique : Unique (closed 46 path_text) IsPath Any
closed_paths_unique = closed_unique path_text IsPath EndsPath 46 dot_ends paths_unique

pub closed_names_unique : Unique (closed 32 name_text) IsName Any
closed_names_unique = closed_unique name_text IsName EndsWord 32 (λ t. refl) names_unique

pub points_unique : Unique (both (closed 46 path_text) (closed 32 name_text)) (Both IsPath IsName) Any
points_unique = both_unique (closed 46 path_text) IsPath Any (closed 32 name_text) IsName Any (λ w t form stop. tt) closed_paths_unique closed_names_unique

pub values_end : (vs : List Value) (t : List ℕ) → AllByRecursion IsReadable vs → Any t → EndsWord (values_line vs ++ t)
unfolding values_text
values_end [] t form stop = refl
values_end (v ∷ vs) t form stop = refl

pub interactions_unique : Unique (both name_text values_line) (Both IsName (AllByRecursion IsReadable)) Any
interactions_unique = both_unique name_text IsName EndsWord values_line (AllByRecursion IsReadable) Any values_end names_unique values_line_unique

pub outs_unique : Unique (both (both (closed 46 path_text) (closed 32 name_text)) (both name_text values_line)) (Both (Both IsPath IsName) (Both IsName (AllByRecursion IsReadable))) Any
outs_unique = both_unique (both (closed 46 path_text) (closed 32 name_text)) (Both IsPath IsName) Any (both name_text values_line) (Both IsName (AllByRecursion IsReadable)) Any (λ i t form stop. tt) points_unique interactions_unique
