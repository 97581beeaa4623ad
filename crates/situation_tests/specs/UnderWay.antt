-- What was computed of a firing that is under way.
use Rattle.std.specs.Prelude.{◌≡◌, ℕ, Contains}
use Rattle.estelle_tree.specs.Timers.{pair}
use Rattle.estelle_model.specs.declared.job.Done.{Done}
use Rattle.run_history.specs.OpenTickets.{open_in}
use Rattle.situation.specs.Known.{Known, IsAnswerIn}
use Rattle.situation.specs.Runs.{taken_as}

module _ {C H : Type 0} where
  -- this writer took it, its ticket is open, and it answers the job
  pub record IsUnderWay (by : ℕ) (w : Known C H) (done : Done) : Type 0 where
    pub is_open : Contains (open_in w.history.entries) (taken_as by done.ticket (pair done.path done.trans))
    pub answers : IsAnswerIn w done

  -- what others took stays under way
  abbrev pub KeepsOthers : ℕ → Known C H → Known C H → Type 0
  KeepsOthers by before after = (other : ℕ) (done : Done) → (other ≡ by → ⊥) → IsUnderWay other before done → IsUnderWay other after done

  abbrev pub KeepsAll : Known C H → Known C H → Type 0
  KeepsAll before after = (other : ℕ) (done : Done) → IsUnderWay other before done → IsUnderWay other after done
