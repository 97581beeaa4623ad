-- From one effect to the next.
use Rattle.std.proofs.Common.{◌≡◌, ℕ, ◌+◌, ◌^◌, ◌<◌, List, [], ◌∷◌, ◌++◌, length, refl, sym, ap, subst, ◌∙◌, arith}
use Rattle.std.specs.Prelude.{reverse}
use Rattle.std.proofs.lemmas.List.{append_assoc, append-nil, reverse-append}
use Rattle.estelle_tree.specs.declared.link.Link.{Link}
use Rattle.estelle_tree.specs.Paths.{Path}
use Rattle.estelle_model.specs.declared.effect.Out.{Out}
use Rattle.estelle_model.specs.declared.effect.Effect.{Effect}
use Rattle.estelle_model.specs.Effects.{StatementEffect, Output, Connect, Disconnect, Attach, Detach, Create, Remove}
use Rattle.estelle_model.specs.Situation.{Waiting, Acting, acting_after, outs_after, drops_after}
use Rattle.estelle_model.specs.Subject.{Subject}
use Rattle.estelle_model.specs.Jobs.{CanAllBeMade, after_all}
use Rattle.effect_log.specs.declared.shared.Shared.{Shared}
use Rattle.effect_log.specs.declared.notes.Notes.{Notes}
use Rattle.effect_log.specs.Putting.{effect_of, effects_of, arrived_at, arrivals}
use Rattle.effect_log.specs.Rooms.{outputs_in, IsRoomFor}
use Rattle.effect_log.specs.Underway.{StandsBut, AreLogged, MayGoOn, WasMade, HasDropped, NotesDrops, HaveBeenMade, IsOnTheWay, times, dropped_by, Rises}
use Rattle.effect_log.proofs.Rising.{times-append, times-all, rises-all}

-- what comes before the outputs stays before them
outs-behind : (e : StatementEffect) (links : List Link) (before outs : List Out) → outs_after e links (before ++ outs) ≡ before ++ outs_after e links outs
unfolding outs_after
outs-behind (Output from ip name values) links before outs = append_assoc before outs _
outs-behind (Connect a b) links before outs = refl
outs-behind (Disconnect a) links before outs = refl
outs-behind (Attach upper lower) links before outs = refl
outs-behind (Detach upper) links before outs = refl
outs-behind (Create p k i) links before outs = refl
outs-behind (Remove p k) links before outs = refl

drops-times : (e : StatementEffect) (mail : List Waiting) (drops : List ℕ) (n : ℕ) → times n (drops_after e mail drops) ≡ times n drops + times n (dropped_by e mail)
unfolding drops_after
drops-times (Output from ip name values) mail drops n = omega arith
drops-times (Connect a b) mail drops n = omega arith
drops-times (Disconnect a) mail drops n = omega arith
drops-times (Attach upper lower) mail drops n = omega arith
drops-times (Detach upper) mail drops n = omega arith
drops-times (Create p k i) mail drops n = omega arith
drops-times (Remove p k) mail drops n = times-all n (dropped_by (Remove p k) mail) drops

drops-rise : (e : StatementEffect) (mail : List Waiting) (drops : List ℕ) → Rises drops → Rises (drops_after e mail drops)
unfolding drops_after
drops-rise (Output from ip name values) mail drops h = h
drops-rise (Connect a b) mail drops h = h
drops-rise (Disconnect a) mail drops h = h
drops-rise (Attach upper lower) mail drops h = h
drops-rise (Detach upper) mail drops h = h
drops-rise (Create p k i) mail drops h = h
drops-rise (Remove p k) mail drops h = rises-all (dropped_by (Remove p k) mail) drops h

-- more drops are noted
drops-noted : (e : StatementEffect) (mail : List Waiting) (before old new drops : List ℕ) → HasDropped old new (dropped_by e mail) → NotesDrops before old drops → NotesDrops before new (drops_after e mail drops)
drops-noted e mail before old new drops h n = record {
  more = n.more ++ h.added;
  behind = h.drops ∙ ap (λ ns. ns ++ h.added) n.behind ∙ append_assoc before n.more h.added;
  same = λ k. let a = times-append k n.more h.added in let b = drops-times e mail drops k in omega (arith, a, b, n.same k, h.same k);
  rises = drops-rise e mail drops n.rises;
}

-- ---- the same situation, with other words for what is left

-- the effects that are left are these
abbrev pub with_list : (s : Subject) (shared : Shared) (notes : Notes) (es fs : List Effect) → es ≡ fs → MayGoOn s es shared notes → MayGoOn s fs shared notes
with_list s shared notes es fs same may = record {
  by = may.by;
  acting = may.acting;
  stands = may.stands;
  sound = may.sound;
  can_be_made = subst (λ (xs : List Effect). CanAllBeMade s may.by (effects_of xs) may.acting) same may.can_be_made;
  logged = subst (AreLogged s) same may.logged;
  room = subst (λ (xs : List Effect). IsRoomFor xs (length may.acting.situation.mail) shared notes) same may.room;
  numbers = subst (λ (xs : List Effect). shared.outputs + outputs_in xs < 2 ^ 64) same may.numbers;
}

-- the notes have another log
abbrev pub with_log : (s : Subject) (shared : Shared) (notes noted : Notes) (es : List Effect) → record notes { log = noted.log } ≡ noted → MayGoOn s es shared notes → MayGoOn s es shared noted
with_log s shared notes noted es others may = record {
  by = may.by;
  acting = may.acting;
  stands = may.stands;
  sound = may.sound;
  can_be_made = may.can_be_made;
  logged = may.logged;
  room = subst (λ (n : Notes). IsRoomFor es (length may.acting.situation.mail) shared n) others (record {
    instances = may.room.instances;
    links = may.room.links;
    items = may.room.items;
    points = may.room.points;
    outs = may.room.outs;
    drops = may.room.drops;
    arrivals = may.room.arrivals;
    rooms = may.room.rooms;
    widest = may.room.widest;
    wide = may.room.wide;
    within = may.room.within;
    made_within = may.room.made_within;
    dropped = may.room.dropped;
    new_points = may.room.new_points;
    none_dropped = may.room.none_dropped;
    no_points = may.room.no_points;
  });
  numbers = may.numbers;
}

-- the last one that is logged is next
pub reverse-last : {A : Type 0} (xs ys : List A) (x : A) → xs ≡ ys ++ x ∷ [] → reverse xs ≡ x ∷ reverse ys
reverse-last xs ys x e = ap reverse e ∙ reverse-append ys (x ∷ [])

module _ (s : Subject) (effects : List Effect) (old : Notes) (by : Path) (a : Acting) where
  module _ (e : Effect) (mid popped : Notes) (shared : Shared) (way : IsOnTheWay s effects old mid shared by a) (last : mid.log.items ≡ popped.log.items ++ e ∷ []) (others : record mid { log = popped.log } ≡ popped) where
    pub left : reverse mid.log.items ≡ e ∷ reverse popped.log.items
    left = reverse-last mid.log.items popped.log.items e last

    -- the next one may be made
    abbrev pub may_make : MayGoOn s (e ∷ reverse popped.log.items) shared popped
    may_make = with_log s shared mid popped (e ∷ reverse popped.log.items) others (with_list s shared mid (reverse mid.log.items) (e ∷ reverse popped.log.items) left way.now)

    -- one effect more was made
    pub goes-on : (new : Notes) (next : Shared) → WasMade s e (reverse popped.log.items) popped new next way.now.by way.now.acting → IsOnTheWay s effects old new next by a
    goes-on new next was =
        let rest : reverse new.log.items ≡ reverse popped.log.items = ap reverse was.log in
        record {
          now = with_list s next new (reverse popped.log.items) (reverse new.log.items) (sym rest) was.next;
          same = was.same ∙ way.same;
          left = (λ i. after_all (effects_of (rest i)) (was.after i)) ∙ ap (λ (xs : List Effect). after_all (effects_of xs) way.now.acting) (sym left) ∙ way.left;
          outs = λ before h.
              was.outs ∙ ap (outs_after (effect_of e) way.now.acting.situation.core.links) (sym (λ i. (others i).outs.items) ∙ way.outs before h)
              ∙ outs-behind (effect_of e) way.now.acting.situation.core.links before way.now.acting.outs ∙ ap (λ (x : Acting). before ++ x.outs) (sym was.after);
          drops = λ before h.
              subst (λ (x : Acting). NotesDrops before new.drops.items x.drops) (sym was.after)
              (drops-noted (effect_of e) way.now.acting.situation.mail before popped.drops.items new.drops.items way.now.acting.drops was.drops
              (subst (λ (ns : List ℕ). NotesDrops before ns way.now.acting.drops) (λ i. (others i).drops.items) (way.drops before h)));
          arrivals =
              (λ i. was.arrivals i ++ arrivals (effects_of (rest i)) (was.after i))
              ∙ append_assoc popped.arrivals.items (arrived_at (effect_of e) way.now.acting.situation.core.links) (arrivals (effects_of (reverse popped.log.items)) (acting_after (effect_of e) way.now.acting))
              ∙ sym (λ i. (others i).arrivals.items ++ arrivals (effects_of (left i)) way.now.acting)
              ∙ way.arrivals;
        }

-- before the first one
pub begins : (s : Subject) (old : Notes) (shared : Shared) (may : MayGoOn s (reverse old.log.items) shared old) → IsOnTheWay s (reverse old.log.items) old old shared may.by may.acting
begins s old shared may = record {
  now = may;
  same = refl;
  left = refl;
  outs = λ before h. h;
  drops = λ before h. h;
  arrivals = refl;
}

-- none is left
pub ends : (s : Subject) (effects : List Effect) (old mid new : Notes) (shared : Shared) (by : Path) (a : Acting) → mid.log.items ≡ [] → new.log.items ≡ [] → record mid { log = new.log } ≡ new → IsOnTheWay s effects old mid shared by a → HaveBeenMade s effects old new shared by a
ends s effects old mid new shared by a none still others way =
    let left : way.now.acting ≡ after_all (effects_of effects) a = ap (λ (es : List Effect). after_all (effects_of (reverse es)) way.now.acting) (sym none) ∙ way.left in
    record {
      stands = subst (λ (x : Acting). StandsBut s by shared x.situation) left (subst (λ (p : Path). StandsBut s p shared way.now.acting.situation) way.same way.now.stands);
      outs = λ before h. sym (λ i. (others i).outs.items) ∙ way.outs before h ∙ ap (λ (x : Acting). before ++ x.outs) left;
      drops = λ before h. subst (λ (x : Acting). NotesDrops before new.drops.items x.drops) left (subst (λ (ns : List ℕ). NotesDrops before ns way.now.acting.drops) (λ i. (others i).drops.items) (way.drops before h));
      arrivals = sym (λ i. (others i).arrivals.items) ∙ sym (append-nil mid.arrivals.items) ∙ ap (λ (es : List Effect). mid.arrivals.items ++ arrivals (effects_of (reverse es)) way.now.acting) (sym none) ∙ way.arrivals;
      log = still;
      dropped = sym (λ i. (others i).dropped.items) ∙ way.now.room.none_dropped;
      points = sym (λ i. (others i).points.items) ∙ way.now.room.no_points;
    }
