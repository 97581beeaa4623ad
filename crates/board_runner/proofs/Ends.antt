-- Ends among entries, and the history of a world.
use Rattle.std.proofs.Common.{◌≡◌, ℕ, ◌+◌, ◌≤◌, List, [], ◌∷◌, ◌++◌, length, Option, Some, None, refl, sym, ap, ◌∙◌, subst, arith}
use Rattle.estelle_model.specs.declared.event.End.{End}
use Rattle.run_history.specs.declared.entry.Entry.{Entry}
use Rattle.run_history.specs.declared.entry.What.{What}
use Rattle.run_history.specs.declared.entry.What.TheVariants as what
use Rattle.run_history.specs.Histories.{project}
use Rattle.run_history.specs.Tickets.{tickets}
use Rattle.situation.specs.Known.{Known, IsOfRun, IsKnownBy}
use Rattle.situation.specs.Runs.{ending, AreCounted}
use Rattle.board_runner.specs.Histories.{base_of, end_or, end_in, AreOf, IsHistory}

-- ---- ends among entries

abbrev at : ℕ → What → Entry
at n w = record { by = n; what = w }

one_more : (n : ℕ) (w : What) (es : List Entry) → length (project es) + length (tickets es) ≤ length es → length (project (at n w ∷ es)) + length (tickets (at n w ∷ es)) ≤ length (at n w ∷ es)
one_more n (what.Event e) es h = omega arith
one_more n (what.Take k m t) es h = omega arith
one_more n (what.Ended e) es h = omega arith

at_most : (es : List Entry) → length (project es) + length (tickets es) ≤ length es
at_most [] = omega arith
at_most (e ∷ es) = one_more e.by e.what es (at_most es)

none_first : (n : ℕ) (w : What) (es : List Entry) → AreCounted (at n w ∷ es) → (AreCounted es → end_in es ≡ None) → end_or w (end_in es) ≡ None
none_first n (what.Event e) es h go = go (omega arith)
none_first n (what.Take k m t) es h go = go (omega arith)
none_first n (what.Ended e) es h go = absurd (omega (arith, at_most es))

-- among events and tickets there is none
pub none_among : (es : List Entry) → AreCounted es → end_in es ≡ None
none_among [] h = refl
none_among (e ∷ es) h = none_first e.by e.what es h (none_among es)

behind_first : (w : What) (a b c : Option End) → end_or w a ≡ None → (a ≡ None → b ≡ c) → end_or w b ≡ c
behind_first (what.Event e) a b c h go = go h
behind_first (what.Take k m t) a b c h go = go h
behind_first (what.Ended e) a b c h go = absurd (cc)

-- behind entries without one it is that of the others
pub end_behind : (es fs : List Entry) → end_in es ≡ None → end_in (es ++ fs) ≡ end_in fs
end_behind [] fs h = refl
end_behind (e ∷ es) fs h = behind_first e.what (end_in es) (end_in (es ++ fs)) (end_in fs) h (end_behind es fs)

-- ---- the history of a world

module _ {C H : Type 0} where
  -- its end is the one that is noted
  pub end_is : (w : Known C H) → IsOfRun w → end_in w.history.entries ≡ w.end
  end_is w keeps = by w.end keeps
    where
      by : (e : Option End) → IsKnownBy w e → end_in w.history.entries ≡ e
      by None h = none_among w.history.entries h.going.counted
      by (Some e) h = ap end_in h.closed.last ∙ end_behind h.closed.before (ending h.closed.writer e ∷ []) (none_among h.closed.before h.closed.counted)

  -- its entries are a history
  pub is_history : (w : Known C H) → IsOfRun w → IsHistory (base_of w) w.time.waited w.history.entries
  is_history w keeps = by w.end keeps (end_is w keeps)
    where
      by : (e : Option End) → IsKnownBy w e → end_in w.history.entries ≡ e → IsHistory (base_of w) w.time.waited w.history.entries
      by None h is = record {
        leads = h.leads;
        room = h.room;
        so_far = subst (λ (x : Option End). AreOf x (base_of w) w.time.waited w.history.entries) (sym is)
            (record { time = w.time; systems = w.systems; last_wait = refl; going = h.going; taken = h.taken });
      }
      by (Some e) h is = record {
        leads = h.leads;
        room = h.room;
        so_far = subst (λ (x : Option End). AreOf x (base_of w) w.time.waited w.history.entries) (sym is) (record { closed = h.closed; taken = h.taken });
      }
