-- The units of jobs and guards run well.
use Rattle.std.proofs.Common.{◌≡◌, refl, subst, ℕ, List, [], Some}
use Rattle.std.specs.Prelude.{IsTrue}
use Rattle.pascal_values.specs.declared.value.Value.{Value}
use Rattle.estelle_tree.specs.Paths.{Path}
use Rattle.body_code.specs.declared.unit.Entry.{Entry}
use Rattle.body_code.specs.declared.unit.Entry.TheVariants as entry
use Rattle.body_code.specs.declared.unit.CodeUnit.{CodeUnit}
use Rattle.body_code.specs.Units.{unit_of}
use Rattle.estelle_model.specs.declared.denoter.Denoter.{Denoter}
use Rattle.estelle_model.specs.Belonging.{are_values_of}
use Rattle.estelle_model.specs.States.{Logged}
use Rattle.estelle_model.specs.Steps.{Running}
use Rattle.estelle_model.specs.Subject.{Subject}
use Rattle.body_numbers.specs.declared.numbers.Numbers.{Numbers}
use Rattle.body_machine_meaning.specs.Executed.{started}
use Rattle.body_kinds.specs.Kinds.{Kind}
use Rattle.body_kinds.specs.Kinded.{Claims, IsGiven, IsKinded}
use Rattle.body_machine_kinds.specs.Laws.{MayBegin, RunsWell, BlocksAreNotStuck, GuardsAreNotStuck, DelaysAreNotStuck, InitializationsAreNotStuck}
use Rattle.body_machine_kinds.proofs.Runs.{comes_well, result_well}
use Rattle.body_machine_kinds.proofs.Starting.{started_typed}

runs : (s : Subject) (n : Numbers) (code : List CodeUnit) (claims : Claims) → IsKinded s n code claims → (body : ℕ) (e : Entry) (unit : CodeUnit) → unit_of code body e ≡ Some unit → (types : List Denoter) → IsGiven types unit
    → (last : List Kind) → (claims body e).result ≡ last → (values : List Value) → IsTrue (are_values_of types values) → (path : Path) (r : Running Logged) → MayBegin s path body r.state.image → RunsWell s n code claims last body unit path values r
runs s n code claims kinded body e unit is types given last left values are path r begin = subst (λ (ks : List Kind). RunsWell s n code claims ks body unit path values r) left (
  begin.0,
  begin.2,
  λ result run. result_well s n code claims kinded begin.0 (claims body e).result (started body unit path values r) run.0 result run.2
      (comes_well s n code claims kinded begin.0 (claims body e).result (started body unit path values r) (started_typed s n code claims kinded body e unit is types given values are path r begin) run.0 run.1),
)

pub blocks_run : BlocksAreNotStuck
blocks_run s n code claims kinded body k unit is t its values are path r begin =
    let f = (kinded body (entry.Block k) unit is).1 t its in
    runs s n code claims kinded body (entry.Block k) unit is t.received f.0 [] f.1 values are path r begin

pub guards_run : GuardsAreNotStuck
guards_run s n code claims kinded body k unit is t its values are path r begin =
    let f = (kinded body (entry.Guard k) unit is).1 t its in
    runs s n code claims kinded body (entry.Guard k) unit is t.received f.0 _ f.1 values are path r begin

pub delays_run : DelaysAreNotStuck
delays_run s n code claims kinded body k unit is t d its written values are path r begin =
    let f = (kinded body (entry.Delay k) unit is).1 t d its written in
    runs s n code claims kinded body (entry.Delay k) unit is t.received f.0 _ f.1 values are path r begin

pub initializations_run : InitializationsAreNotStuck
initializations_run s n code claims kinded body unit is path r begin =
    let f = (kinded body entry.Initialize unit is).1 in
    runs s n code claims kinded body entry.Initialize unit is [] f.0 [] f.1 [] refl path r begin
