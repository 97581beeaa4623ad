use Rattle.std.proofs.Common.{◌≡◌, ◌∙◌, ap, subst, List, map}
use Rattle.pascal_values.specs.declared.value.Shape.{Shape}
use Rattle.estelle_tree.specs.declared.tree.specification.Spec.{Spec}
use Rattle.estelle_model.specs.Bodies.{bodies}
use Rattle.estelle_model.specs.Subject.{Subject, declared_in}
use Rattle.meaning_table.specs.Known.{Known}
use Rattle.type_shapes.specs.Numbered.{AreFirst}
use Rattle.body_program_numbers.specs.Outline as outline
use Rattle.body_program_numbers.specs.Found as found
use Rattle.body_program_numbers.specs.Places.{lists_from}
use Rattle.body_program_numbers.specs.Numbering.{place_of_routine, interaction_places}
use Rattle.body_program_numbers.proofs.numbering.Numbering.new.Goals as goal

pub invariant_of-result : goal.invariant_of-result
invariant_of-result c =
    let s : Subject = c.args.program.now in
    let same : c.args.spec.now ≡ s.specification = c.requires in
    let declared = declared_in s in
    let lists = c.in_ok-outline.ensures.routines ∙ ap outline.routine_lists same in
    let channels = c.in_ok-outline.ensures.channels ∙ ap outline.channels_in same in
    record {
      numbers = c.in_ok-numbers.ensures;
      shapes = subst (λ (xs : List Shape). AreFirst 0 xs c.in_ok-shapes.shapes) c.items-all_shapes.ensures c.in_ok-shapes.ensures;
      bodies = c.in_ok-outline.ensures.standings ∙ ap bodies same;
      lists = lists;
      none = c.new.ensures;
      routines = c.in_ok-routines.ensures
          ∙ ap (lists_from 0) (c.items-routine_places.ensures ∙ c.in_ok-routine_lists.ensures ∙ ap (λ bs. map (map place_of_routine) (found.routine_lists bs)) c.items-found.ensures ∙ ap (map (map place_of_routine)) lists);
      interactions = c.in_ok-interactions.ensures
          ∙ ap (lists_from 0)
          (c.items-interaction_places.ensures
          ∙ c.in_ok-all.ensures.places
          ∙ ap (λ (k : Known). map (interaction_places k.declared) (found.channels c.items-channels.result.now)) c.table-table.ensures
          ∙ ap (λ cs. map (interaction_places declared) (found.channels cs)) c.items-channels.ensures
          ∙ ap (map (interaction_places declared)) channels);
      name = ap (λ (t : Spec). t.name) same;
    }
