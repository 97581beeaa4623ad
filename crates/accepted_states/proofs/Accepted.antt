-- Accepted specifications lead to states of their own.
use Rattle.std.proofs.Common.{ℕ, inl, List, sym, subst}
use Rattle.estelle_tree.specs.declared.names.Use.{Use}
use Rattle.estelle_tree.specs.declared.token.Placed.{Placed}
use Rattle.estelle_tree.specs.declared.tree.specification.Spec.{Spec}
use Rattle.estelle_tree.specs.Lexed.{FollowOneAnother}
use Rattle.estelle_tree.specs.Spells.{Spells}
use Rattle.estelle_lexer.proofs.Lexes.{lexed_spans}
use Rattle.estelle_model_legality.specs.Instances.{LeadsToStates}
use Rattle.scope_rules.specs.NameRules.{names_of}
use Rattle.accepted_states.specs.Laws.{KeepsRules, AcceptedLeadToStates, ReadLeadToStates}
use Rattle.accepted_states.proofs.Leads.{initial, next}
use Rattle.accepted_states.proofs.FitBodies.{declared_apart}
use Rattle.accepted_states.proofs.Root.{root_may}

leads : (spec : Spec) (tokens : List Placed) (rest : ℕ) → Spells spec tokens → FollowOneAnother 0 tokens rest → KeepsRules spec → LeadsToStates (record { specification = spec; names = names_of spec })
leads spec tokens rest spells follow kept =
    let apart = declared_apart spec tokens rest spells follow in
    record {
      root = root_may spec kept;
      initial = initial spec tokens rest spells follow (λ b h. kept b (inl h)) apart;
      next = next spec tokens rest spells follow (λ b h. kept b (inl h)) apart;
    }

pub accepted_lead_to_states : AcceptedLeadToStates
accepted_lead_to_states spec names tokens rest spells follow named kept =
    subst (λ (us : List Use). LeadsToStates (record { specification = spec; names = us })) (sym named) (leads spec tokens rest spells follow kept)

pub read_lead_to_states : ReadLeadToStates
read_lead_to_states spec names text tokens rest lexed spells named kept = accepted_lead_to_states spec names tokens rest spells (lexed_spans lexed).0 named kept
