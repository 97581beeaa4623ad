-- The events and the end of every run of an accepted specification have the form that a trace can tell.
use Rattle.std.specs.Prelude.{◌≡◌, ℕ, ◌^◌, ◌≤◌, List}
use Rattle.std.specs.List.{AllByRecursion}
use Rattle.estelle_tree.specs.declared.names.Use.{Use}
use Rattle.estelle_tree.specs.declared.token.Placed.{Placed}
use Rattle.estelle_tree.specs.declared.tree.name.Name.{Name}
use Rattle.estelle_tree.specs.declared.tree.specification.Spec.{Spec}
use Rattle.estelle_tree.specs.Lexed.{FollowOneAnother}
use Rattle.estelle_tree.specs.Spells.{Spells}
use Rattle.estelle_model.specs.declared.event.Event.{Event}
use Rattle.estelle_model.specs.declared.event.End.{End}
use Rattle.estelle_model.specs.declared.meaning.InteractionKind.{InteractionKind}
use Rattle.estelle_model.specs.declared.meaning.Meaning.TheVariants.{Interaction}
use Rattle.estelle_model.specs.Subject.{Subject, meant}
use Rattle.estelle_model.specs.Runs.{IsRun}
use Rattle.estelle_model.specs.Ends.{Closes}
use Rattle.scope_rules.specs.NameRules.{names_of}
use Rattle.accepted_states.specs.Laws.{KeepsRules}
use Rattle.trace_text.specs.Forms.{HasForm}
use Rattle.trace_forms.specs.Types.{IsReadableType}
use Rattle.trace_forms.specs.Numbers.{NumbersFit}

-- the values of the parameters of each interaction can be read
abbrev pub HasReadableParameters : Subject → Type 0
HasReadableParameters s = (x : Name) (kind : InteractionKind) → meant s x ≡ Interaction kind → AllByRecursion IsReadableType kind.parameters

-- Where a specification spells tokens whose spans follow one another within 2^32 bytes, and breaks no rule, with the names that the rules say, the values of the parameters of its interactions can be read.
abbrev pub ParametersAreReadable : Type 0
ParametersAreReadable = (spec : Spec) (names : List Use) (tokens : List Placed) (rest : ℕ) → Spells spec tokens → FollowOneAnother 0 tokens rest → rest ≤ 2 ^ 32 → names ≡ names_of spec → KeepsRules spec
    → HasReadableParameters (record { specification = spec; names = names })

-- In every run of a specification that spells tokens whose spans follow one another within 2^32 bytes, and that breaks no rule, with the names that the rules say, where the numbers of births and outputs that the events name fit in 64 bits, the events and the end have this form.
abbrev pub RunsHaveForm : Type 0
RunsHaveForm = (spec : Spec) (names : List Use) (tokens : List Placed) (rest : ℕ) → Spells spec tokens → FollowOneAnother 0 tokens rest → rest ≤ 2 ^ 32 → names ≡ names_of spec → KeepsRules spec
    → (budget : ℕ) (events : List Event) (e : End) → IsRun (record { specification = spec; names = names }) budget events → Closes (record { specification = spec; names = names }) budget events e → NumbersFit events → HasForm events e
