use Rattle.std.proofs.Common.{◌≡◌, ◌≢◌, ◌⊎◌, ℕ, ◌+◌, ◌<◌, ◌≤◌, Bool, true, false, List, length, Option, Some, vec_capacity, not, refl, sym, ap, ◌∙◌, inl, inr, arith, subst}
use Rattle.std.specs.List.{filter}
use Rattle.std.proofs.lemmas.Bool.{cases_eq}
use Rattle.estelle_tree.specs.Links.{touches}
use Rattle.estelle_tree.specs.declared.link.Link.{Link}
use Rattle.link_ops.specs.declared.pairs.Pairing.{Pairing}
use Rattle.link_ops.specs.Pairs.{seen, slot, link_of}
use Rattle.link_ops.proofs.Lists.{filter-full}
use Rattle.link_ops.proofs.Changes.{link-same, slot-within}
use Rattle.link_ops.proofs.pairs.forget.Invariants.{stays}
use Rattle.link_ops.proofs.pairs.forget.Goals as goal

pub loop-at-preserved : goal.loop-at-preserved
loop-at-preserved c =
    let inv = c.loop-at.invariant.0 in
    let call = c.forget_at-removed in
    let said = call.ensures in
    let judged : (j : ℕ) (y : Pairing) → j < c.loop-at.at + 1 → slot call.new.pairs.items j ≡ Some y → stays c.args.path.now (link_of call.new.points y) ≡ true =
    λ j y less is. elim (cases_eq j c.loop-at.at) [
      | inl e ↦ ap not (said.judged y (rw e at is))
      | inr differs ↦
          let P : Link → Type 0 = λ l. stays c.args.path.now l ≡ true in
          subst P (sym (link-same c.loop-at.points call.new.points c.loop-at.pairs.items inv.tied said.tied.sound said.points y))
          (inv.judged j y (omega arith) (sym (said.others j differs) ∙ is))
    ] in (
      record {
        tied = said.tied;
        room = said.room ∙ inv.room;
        len = said.len ∙ inv.len;
        links = said.kept ∙ inv.links;
        judged = judged;
        removed = omega (arith, inv.removed, said.removed);
        few = omega (arith, inv.few, said.few);
      },
      said.capacity ∙ c.loop-at.invariant.1,
    )

pub returns-clause-seen : goal.returns-clause-seen
returns-clause-seen c =
    let inv = c.loop-at.invariant.0 in
    let all : (j : ℕ) (y : Pairing) → slot c.loop-at.pairs.items j ≡ Some y → stays c.args.path.now (link_of c.loop-at.points y) ≡ true =
    λ j y is. inv.judged j y (omega (arith, slot-within c.loop-at.pairs.items j y is, inv.len, c.loop-at-test.false, c.len-at-end.ensures, c.args.pairs.now.ok.0)) is in
    sym (filter-full (link_of c.loop-at.points) (stays c.args.path.now) c.loop-at.pairs.items all) ∙ inv.links
