-- Each step of a turn keeps the rule: draw, look, count, pass on.
use Rattle.std.proofs.Common.{◌≡◌, ◌≢◌, ℕ, ◌+◌, ◌%◌, ◌^◌, ◌<◌, ◌≤◌, eqb, Bool, true, false, true≢false, List, [], ◌∷◌, ◌++◌, length, drop, set, get_or, refl, sym, ap, ◌∙◌, subst, arith, append-nil, mod-eq_of_lt}
use Rattle.std.proofs.lemmas.List.{set-get_or}
use Rattle.std.specs.Prelude.{All, Option, Some, None}
use Rattle.std.proofs.Math.Seq.{drop-append_seam}
use Rattle.std.proofs.lemmas.List.Elements.{All-append}
use mathlib.Core.Logic.{dite}
use mathlib.Core.Option.{some, none}
use native.Mathlib.Decide.{ℕ_discrete}
use lib.ListN.{get_elem?}
use prog.Atomic.{either}
use Rattle.atomic_table.specs.Table.{State, step, Act, keeps, takes, gives, Valid, carried_after, stepped, Allows}
use Rattle.atomic_table.proofs.Lists.{exchanged}
use Rattle.turn_board.specs.declared.views.Stage.{Stage}
use Rattle.turn_board.specs.declared.views.Stage.TheVariants.{Idle, Drawn, Holds}
use Rattle.turn_board.specs.declared.views.Own.{Own}
use Rattle.turn_board.specs.declared.views.Role.{Role}
use Rattle.turn_board.specs.declared.views.Role.TheVariants.{Opener, Member, Closer, Spent}
use Rattle.turn_board.specs.Accounts.{StartsWith, places_by, with_stage, in_turn, found_in, Agrees, FindsLeft}
use Rattle.turn_board.specs.Rule.{Standing, InStage, StaysLeft, IsAnswered, AreAnswered, IsInUse, Fits, is_held, Kept}
use Rattle.turn_board.specs.Steps.{Sat, drawn, looked, counted, passed, grown, left_by}
use Rattle.turn_board.proofs.Entries.{put, put_here, put_else, each_set, set_there, places_grow, agrees_still}
use Rattle.turn_board.proofs.Standings.{member_inj, apart, out_stays, moved, answered_too, restage, unmoved, busy}

abbrev ticket_in : {E : Type 0} → Stage E → ℕ
ticket_in Idle = 0
ticket_in (Drawn t) = t
ticket_in (Holds t found) = t

abbrev pub value_or : {V : Type 0} → V → Option V → V
value_or d None = d
value_or d (Some x) = x

abbrev item_or : {V : Type 0} → V → List (ℕ × Option V) → V
item_or d [] = d
item_or d (x ∷ xs) = value_or d x.1

-- ---- what a step leaves of the other seats

module _ {V E : Type 0} (w : Standing V E) where
  -- one more ticket is drawn, by the seat `id`
  drawn_stage : (new id j : ℕ) → w.ticket < new → w.turn ≤ w.ticket → (st : Stage E) → InStage w j st → InStage (moved w new w.turn w.out w.value (put w.owner w.ticket id)) j st
  drawn_stage new id j more served Idle x = tt
  drawn_stage new id j more served (Drawn t) x =
      let tk : ℕ = w.ticket in
      let a : t < tk = x.1 in
      let m : tk < new = more in
      (x.0, (let g : t < new = omega arith in g), put_else w.owner w.ticket id t (λ e. let e' : t ≡ tk = e in omega arith) ∙ x.2)
  drawn_stage new id j more served (Holds t found) x =
      let tk : ℕ = w.ticket in
      let a : t < tk = x.2 in
      let m : tk < new = more in
      (x.0, x.1, (let g : t < new = omega arith in g), put_else w.owner w.ticket id t (λ e. let e' : t ≡ tk = e in omega arith) ∙ x.3, x.4)

  -- the value is taken from the slot
  taken_stage : (j : ℕ) → w.out ≡ false → (st : Stage E) → InStage w j st → InStage (moved w w.ticket w.turn true w.value w.owner) j st
  taken_stage j free Idle x = tt
  taken_stage j free (Drawn t) x = x
  taken_stage j free (Holds t found) x = absurd (true≢false (sym x.0 ∙ free))

  taken_left : (left : Option (ℕ × V)) → StaysLeft w left → StaysLeft (moved w w.ticket w.turn true w.value w.owner) left
  taken_left None x = x
  taken_left (Some last) x = (x.0, λ e out. absurd (true≢false out))

  -- another value is given back, and the next ticket is served
  passed_stage : (id j : ℕ) (v : V) → j ≢ id → w.owner w.turn ≡ id → (st : Stage E) → InStage w j st → InStage (moved w w.ticket (w.turn + 1) false v w.owner) j st
  passed_stage id j v other here Idle x = tt
  passed_stage id j v other here (Drawn t) x =
      let tn : ℕ = w.turn in
      let a : tn ≤ t = x.0 in
      let ne : tn ≢ t = λ e. other (sym x.2 ∙ (ap w.owner (sym e) ∙ here)) in
      ((let g : tn + 1 ≤ t = omega arith in g), x.1, x.2)
  passed_stage id j v other here (Holds t found) x = absurd (other (sym x.3 ∙ (ap w.owner (sym x.1) ∙ here)))

  passed_left : (v : V) (left : Option (ℕ × V)) → StaysLeft w left → StaysLeft (moved w w.ticket (w.turn + 1) false v w.owner) left
  passed_left v None x = x
  passed_left v (Some last) x =
      let tn : ℕ = w.turn in
      let t : ℕ = last.0 in
      let a : t < tn = x.0 in
      ((let g : t < tn + 1 = omega arith in g), λ e _. let e' : tn + 1 ≡ t + 1 = e in absurd (omega arith))

  -- the entries of the seat that has the turn join the list
  counted_stage : (rest : List E) (id j : ℕ) → j ≢ id → w.owner w.turn ≡ id → (st : Stage E) → InStage w j st → InStage (record w { log = w.log ++ rest }) j st
  counted_stage rest id j ne here Idle x = tt
  counted_stage rest id j ne here (Drawn t) x = x
  counted_stage rest id j ne here (Holds t found) x = absurd (ne (sym x.3 ∙ (ap w.owner (sym x.1) ∙ here)))

-- these entries, of the pass for which the seat `id` answers, join the list
module _ {V B E : Type 0} (writer_of : E → ℕ) (base : B) (rest : List E) (number : ℕ) (id : ℕ) (wrote : All (λ e. writer_of e ≡ number) rest) where
  counted_answered : (log : List E) (made : ℕ) (seat : ℕ → ℕ) (j : ℕ) (o : Own V B E) → j ≢ id → seat number ≡ id → IsAnswered writer_of base log made seat j o → IsAnswered writer_of base (log ++ rest) made seat j o
  counted_answered log made seat j o ne sits x = record {
    high = x.high;
    seated = x.seated;
    agrees = agrees_still writer_of o base log rest x.agrees (λ k d lt same. ne (sym x.seated ∙ (ap seat (sym same ∙ wrote k d lt) ∙ sits)));
  }

  counted_ended : (log : List E) (made : ℕ) (seat : ℕ → ℕ) (j : ℕ) (told : List (Own V B E)) → j ≢ id → seat number ≡ id → AreAnswered writer_of base log made seat j told → AreAnswered writer_of base (log ++ rest) made seat j told
  counted_ended log made seat j [] ne sits x = tt
  counted_ended log made seat j (o ∷ os) ne sits x = (counted_answered log made seat j o ne sits x.0, counted_ended log made seat j os ne sits x.1)

  counted_others : (w : Standing V E) (j : ℕ) → j ≢ id → w.seat number ≡ id → w.owner w.turn ≡ id → (k : Role V B E) → Fits writer_of base w j k → Fits writer_of base (record w { log = w.log ++ rest }) j k
  counted_others w j ne sits here (Opener b m) x = x
  counted_others w j ne sits here (Member o) x = record { low = x.low; answered = counted_answered w.log w.made w.seat j o ne sits x.answered; stays = x.stays; in_stage = counted_stage w rest id j ne here o.stage x.in_stage }
  counted_others w j ne sits here (Closer told) x = counted_ended w.log w.made w.seat j told ne sits x
  counted_others w j ne sits here Spent x = tt

-- ---- the steps

module _ {V B E : Type 0} (base_of : V → B) (entries_of : V → List E) (writer_of : E → ℕ) (passes : ℕ) (base : B) where
  abbrev M : Type 0
  M = Sat V B E

  abbrev St : Type 0
  St = State (Option V) (Role V B E)

  abbrev H : St → Type 0
  H = Kept base_of entries_of writer_of passes base

  abbrev Carried : Type 0
  Carried = List (ℕ × Option V)

  abbrev Goes : St → ℕ → ℕ → M → (ℕ → M → Type 0) → ℕ → Type 0
  Goes s k id me then x = (w : Role V B E) × (a : Act (Option V)) × Valid s.homes me.1 a × H (stepped s k x id me.1 w a) × then (get_or s.words k 0) (w, carried_after me.1 a)

  -- draw: one is added to `ticket`, where it was as read
  draws : (n id : ℕ) (o : Own V B E) (c : Carried) (old new : ℕ) → o.stage ≡ Idle → new ≡ old + 1 → new < 2 ^ 64 → Allows H n id (Member o, c) 0 (λ y. either (eqb y old) new y) (drawn (step n 0 old new none) (Member o, c))
  draws n id o c old new idle more fits s h wide at _ =
      let w = h.now in
      let y : ℕ = get_or s.words 0 0 in
      let tk : ℕ = w.ticket in
      let tn : ℕ = w.turn in
      let served : tn ≤ tk = h.served in
      let is : y ≡ tk = ap (λ ws. get_or ws 0 0) h.words in
      let f = h.each id (Member o) at in
      exchanged y old new (Goes s 0 id (Member o, c) (drawn (step n 0 old new none) (Member o, c)))
      (λ hit.
      let k : Role V B E = Member (with_stage o (Drawn old)) in
      let owner' : ℕ → ℕ = put w.owner w.ticket id in
      let tick : old ≡ tk = sym hit ∙ is in
      let later : tk < new = omega arith in (
        k,
        keeps,
        tt,
        record {
          now = moved w new w.turn w.out w.value owner';
          words = ap (λ ws. set ws 0 new) h.words;
          small = fits;
          served = (let g : tn ≤ new = omega arith in g);
          at_most = h.at_most;
          writers = h.writers;
          home = h.home;
          out = λ b. let less : tn < tk = busy base_of entries_of writer_of passes base s h b in subst (λ (z : ℕ). Rattle.turn_board.specs.Rule.IsOut z s.homes (set s.views id k)) (sym (put_else w.owner w.ticket id w.turn (λ e. let e' : tn ≡ tk = e in omega arith))) (out_stays s.homes s.views (w.owner w.turn) id (Member o) k at (ap is_held idle) (h.out b));
          each = each_set (Fits writer_of base (moved w new w.turn w.out w.value owner')) s.views id k
              (λ j q other e. restage writer_of base w new w.turn w.out w.value owner' j (drawn_stage w new id j later served) (λ left x. x) q (h.each j q e))
              record { low = f.low; answered = answered_too writer_of base w.log w.made w.seat id o o.left (Drawn old) f.answered; stays = f.stays; in_stage = ((let g : tn ≤ old = omega arith in g), (let g : old < new = omega arith in g), ap owner' tick ∙ put_here w.owner w.ticket id) };
        },
        λ o' same. ((λ _. ap (λ x. (Member (with_stage x (Drawn old)), c)) (member_inj o o' same)), (λ no. absurd (no hit))),
      ))
      (λ miss. (Member o, keeps, tt, unmoved base_of entries_of writer_of passes base s h 0 id c (Member o) at, λ o' same. ((λ hit. absurd (miss hit)), λ _. refl)))

  abbrev Told : Carried → Own V B E → ℕ → Own V B E → ℕ → M → Type 0
  Told c o y o' t' m' = (y ≡ t' → (v : V) × (m' ≡ (Member (in_turn o' t' (entries_of v)), (0, Some v) ∷ c)) × Agrees writer_of o' (base_of v) (entries_of v) × FindsLeft o' t' v) × (y ≢ t' → m' ≡ (Member o, c))

  looks_hit : (s : St) (h : H s) (id : ℕ) (o : Own V B E) (c : Carried) (t y : ℕ) → o.stage ≡ Drawn t → get_elem? s.views id ≡ some (Member o) → h.now.turn ≡ t → y ≡ get_or s.words 1 0 → y ≡ t → (b : Bool) → h.now.out ≡ b
      → (k : Role V B E) × (a : Act (Option V)) × Valid s.homes c a × H (stepped s 1 y id c k a) × Told c o y o t (k, carried_after c a)
  looks_hit s h id o c t y waits at served read hit true e =
      let w = h.now in
      let mine = subst (InStage w id) waits (h.each id (Member o) at).in_stage in
      let l = h.out e in
      absurd (apart s.views (w.owner w.turn) id (Member l.1.0) (Member o) l.1.1 at l.1.2 (ap is_held waits) (ap w.owner served ∙ mine.2))
  looks_hit s h id o c t y waits at served read hit false e =
      let w = h.now in
      let f = h.each id (Member o) at in
      let mine = subst (InStage w id) waits f.in_stage in
      let v : V = w.value in
      let l = h.home e in
      let k : Role V B E = Member (in_turn o t (entries_of v)) in
      let here : w.owner w.turn ≡ id = ap w.owner served ∙ mine.2 in (
        k,
        takes 0 (Some v),
        ap (λ hs. get_elem? hs 0) l.0,
        record {
          now = moved w w.ticket w.turn true v w.owner;
          words = ap (set s.words 1) read ∙ (set-get_or s.words 1 0 ∙ h.words);
          small = h.small;
          served = h.served;
          at_most = h.at_most;
          writers = h.writers;
          home = λ b. absurd (true≢false b);
          out = λ _. (ap (λ hs. set hs 0 none) l.0, (in_turn o t (entries_of v), ap (λ z. get_elem? (set s.views id k) z) here ∙ set_there s.views id k (Member o) at, refl));
          each = each_set (Fits writer_of base (moved w w.ticket w.turn true v w.owner)) s.views id k
              (λ j q other x. restage writer_of base w w.ticket w.turn true v w.owner j (taken_stage w j e) (taken_left w) q (h.each j q x))
              record { low = f.low; answered = answered_too writer_of base w.log w.made w.seat id o o.left (Holds t (entries_of v)) f.answered; stays = taken_left w o.left f.stays; in_stage = (refl, served, mine.1, mine.2, l.2) };
        },
        (
          (λ _. (v, refl, subst (λ (q : List E). Agrees writer_of o (base_of v) q) (sym l.2) (subst (λ (q : B). Agrees writer_of o q w.log) (sym l.1) f.answered.agrees), found_left o.left f.stays)),
          λ miss. absurd (miss hit),
        ),
      )
    where
      found_left : (left : Option (ℕ × V)) → StaysLeft h.now left → FindsLeft (record o { left = left }) t h.now.value
      found_left None x = x
      found_left (Some last) x = λ next. x.1 (served ∙ next) e

  -- look: who is served takes the value, which lies in the slot
  looks : (n id : ℕ) (o : Own V B E) (c : Carried) (t : ℕ) → o.stage ≡ Drawn t → Allows H n id (Member o, c) 1 (λ y. y) (looked base_of entries_of writer_of (step n 1 0 0 none) (Member o, c))
  looks n id o c t waits s h wide at _ =
      let y : ℕ = get_or s.words 1 0 in
      let is : y ≡ h.now.turn = ap (λ ws. get_or ws 1 0) h.words in
      let told : (m' : M) → Told c o y o t m' → looked base_of entries_of writer_of (step n 1 0 0 none) (Member o, c) y m'
      = λ m' x o' t' same st. subst (λ (z : Own V B E × ℕ). Told c o y z.0 z.1 m') (λ k. (member_inj o o' same k, (ap ticket_in (sym waits ∙ (ap (λ (q : Own V B E). q.stage) (member_inj o o' same) ∙ st))) k)) x in
      dite (ℕ_discrete y t)
      (λ hit. let r = looks_hit s h id o c t y waits at (sym is ∙ hit) refl hit h.now.out refl in (r.0, r.1, r.2, r.3, told (r.0, carried_after c r.1) r.4))
      (λ miss. (Member o, keeps, tt, unmoved base_of entries_of writer_of passes base s h 1 id c (Member o) at, told (Member o, c) ((λ hit. absurd (miss hit)), λ _. refl)))

  -- count: the entries of the turn join the list
  counts_at : (s : St) (h : H s) (id : ℕ) (o : Own V B E) (t : ℕ) (found rest : List E) (c : Carried) (x : ℕ) → get_elem? s.views id ≡ some (Member o) → o.stage ≡ Holds t found → All (λ e. writer_of e ≡ o.number) rest → x ≡ length (found ++ rest)
      → H (stepped s 2 x id c (Member (grown o t found (found ++ rest))) keeps)
  counts_at s h id o t found rest c x at holds wrote long =
      let w = h.now in
      let f = h.each id (Member o) at in
      let a = f.answered in
      let mine = subst (InStage w id) holds f.in_stage in
      let same : found ≡ w.log = mine.4 in
      let k : Role V B E = Member (grown o t found (found ++ rest)) in
      let here : w.owner w.turn ≡ id = ap w.owner mine.1 ∙ mine.3 in
      let number : ℕ = o.number in
      let made : ℕ = w.made in
      let high : number ≤ made = a.high in
      let now' : Standing V E = record w { log = w.log ++ rest } in
      let places : o.mine ++ Rattle.turn_board.specs.Accounts.places_beyond found (found ++ rest) ≡ places_by writer_of o.number 0 (found ++ rest)
      = places_grow writer_of o.number o.mine found rest (a.agrees.own_places ∙ ap (places_by writer_of o.number 0) (sym same)) wrote in
      record {
        now = now';
        words = ap (λ ws. set ws 2 x) h.words ∙ ap (λ (z : ℕ). w.ticket ∷ w.turn ∷ z ∷ []) (long ∙ ap (λ l. length (l ++ rest)) same);
        small = h.small;
        served = h.served;
        at_most = h.at_most;
        writers = All-append (λ e. writer_of e ≤ made) w.log rest h.writers (λ k d lt. let e : writer_of (get_or rest k d) ≡ number = wrote k d lt in subst (λ (z : ℕ). z ≤ made) (sym e) high);
        home = λ b. absurd (true≢false (sym mine.0 ∙ b));
        out = λ b. ((h.out b).0, (grown o t found (found ++ rest), ap (λ z. get_elem? (set s.views id k) z) here ∙ set_there s.views id k (Member o) at, refl));
        each = each_set (Fits writer_of base now') s.views id k
            (λ j q other e. counted_others writer_of base rest o.number id wrote w j other a.seated here q (h.each j q e))
            record {
              low = f.low;
              answered = record {
                high = a.high;
                seated = a.seated;
                agrees = record {
                  base_is = a.agrees.base_is;
                  begins = ([], ap (λ l. l ++ rest) (sym same) ∙ sym (append-nil (found ++ rest)));
                  own_places = places ∙ ap (λ l. places_by writer_of o.number 0 (l ++ rest)) same;
                  own_seen = places;
                };
              };
              stays = f.stays;
              in_stage = (mine.0, mine.1, mine.2, mine.3, ap (λ l. l ++ rest) same);
            };
      }

  counts : (n id : ℕ) (o : Own V B E) (t : ℕ) (found : List E) (v : V) (k : ℕ) → o.stage ≡ Holds t found → StartsWith (entries_of v) found → All (λ e. writer_of e ≡ o.number) (drop (length found) (entries_of v)) → length found + k ≡ length (entries_of v) → length (entries_of v) < 2 ^ 64
      → Allows H n id (Member o, (0, Some v) ∷ []) 2 (λ y. (y + k) % 2 ^ 64) (counted entries_of (step n 2 k 0 none) (Member o, (0, Some v) ∷ []))
  counts n id o t found v k holds begins wrote more fits s h wide at _ =
      let y : ℕ = get_or s.words 2 0 in
      let w = h.now in
      let mine = subst (InStage w id) holds (h.each id (Member o) at).in_stage in
      let is : y ≡ length found = ap (λ ws. get_or ws 2 0) h.words ∙ ap length (sym mine.4) in
      let long : y + k ≡ length (entries_of v) = ap (λ (z : ℕ). z + k) is ∙ more in
      let less : y + k < 2 ^ 64 = omega arith in
      let rest = begins.0 in
      let wrote' : All (λ e. writer_of e ≡ o.number) rest = subst (All (λ e. writer_of e ≡ o.number)) (ap (drop (length found)) begins.1 ∙ drop-append_seam found rest) wrote in (
        Member (grown o t found (entries_of v)),
        keeps,
        tt,
        subst (λ (l : List E). H (stepped s 2 ((y + k) % 2 ^ 64) id ((0, Some v) ∷ []) (Member (grown o t found l)) keeps)) (sym begins.1)
            (counts_at s h id o t found rest ((0, Some v) ∷ []) ((y + k) % 2 ^ 64) at holds wrote' (mod-eq_of_lt less ∙ (long ∙ ap length begins.1))),
        λ o' t' found' v' same st carries.
            let stages = sym holds ∙ (ap (λ (q : Own V B E). q.stage) (member_inj o o' same) ∙ st) in
            λ i. (Member (grown (member_inj o o' same i) (ap ticket_in stages i) (ap found_in stages i) (entries_of (ap (item_or v) carries i))), (0, Some v) ∷ []),
      )

  -- pass on: the value is given back, and the next ticket is served
  passes_on : (n id : ℕ) (o : Own V B E) (t : ℕ) (found : List E) (v : V) → o.stage ≡ Holds t found → entries_of v ≡ found → base_of v ≡ o.base → Allows H n id (Member o, (0, Some v) ∷ []) 1 (λ y. (y + 1) % 2 ^ 64) (passed (step n 1 1 0 none) (Member o, (0, Some v) ∷ []))
  passes_on n id o t found v holds same_entries same_base s h wide at _ =
      let w = h.now in
      let y : ℕ = get_or s.words 1 0 in
      let f = h.each id (Member o) at in
      let mine = subst (InStage w id) holds f.in_stage in
      let tn : ℕ = w.turn in
      let tk : ℕ = w.ticket in
      let is : y ≡ tn = ap (λ ws. get_or ws 1 0) h.words in
      let mine_is : tn ≡ t = mine.1 in
      let drawn' : t < tk = mine.2 in
      let below : tn < tk = omega arith in
      let small : tk < 2 ^ 64 = h.small in
      let less : y + 1 < 2 ^ 64 = omega arith in
      let next : (y + 1) % 2 ^ 64 ≡ tn + 1 = mod-eq_of_lt less ∙ ap (λ (z : ℕ). z + 1) is in
      let here : w.owner w.turn ≡ id = ap w.owner mine.1 ∙ mine.3 in
      let k : Role V B E = Member (left_by o t v) in
      let empty : s.homes ≡ none ∷ [] = (h.out mine.0).0 in (
        k,
        gives,
        tt,
        record {
          now = moved w w.ticket (tn + 1) false v w.owner;
          words = ap (λ ws. set ws 1 ((y + 1) % 2 ^ 64)) h.words ∙ ap (λ (z : ℕ). w.ticket ∷ z ∷ length w.log ∷ []) next;
          small = h.small;
          served = (let g : tn + 1 ≤ tk = omega arith in g);
          at_most = h.at_most;
          writers = h.writers;
          home = λ _. (ap (λ hs. set hs 0 (some (Some v))) empty, same_base ∙ sym f.answered.agrees.base_is, same_entries ∙ mine.4);
          out = λ b. absurd (true≢false (sym b));
          each = each_set (Fits writer_of base (moved w w.ticket (tn + 1) false v w.owner)) s.views id k
              (λ j q other e. restage writer_of base w w.ticket (tn + 1) false v w.owner j (passed_stage w id j v other here) (passed_left w v) q (h.each j q e))
              record { low = f.low; answered = answered_too writer_of base w.log w.made w.seat id o (Some (t, v)) Idle f.answered; stays = ((let g : t < tn + 1 = omega arith in g), λ _ _. refl); in_stage = tt };
        },
        λ o' t' found' v' same st carries.
            let stages = sym holds ∙ (ap (λ (q : Own V B E). q.stage) (member_inj o o' same) ∙ st) in
            λ i. (Member (left_by (member_inj o o' same i) (ap ticket_in stages i) (ap (item_or v) carries i)), []),
      )

  -- the same, at a seat that is known
  pub draws_as : (n id : ℕ) (m : M) (o : Own V B E) (c : Carried) (old new : ℕ) → m ≡ (Member o, c) → o.stage ≡ Idle → new ≡ old + 1 → new < 2 ^ 64 → Allows H n id m 0 (λ y. either (eqb y old) new y) (drawn (step n 0 old new none) m)
  draws_as n id m o c old new is idle more fits = subst (λ x. Allows H n id x 0 (λ y. either (eqb y old) new y) (drawn (step n 0 old new none) x)) (sym is) (draws n id o c old new idle more fits)

  pub looks_as : (n id : ℕ) (m : M) (o : Own V B E) (c : Carried) (t : ℕ) → m ≡ (Member o, c) → o.stage ≡ Drawn t → Allows H n id m 1 (λ y. y) (looked base_of entries_of writer_of (step n 1 0 0 none) m)
  looks_as n id m o c t is waits = subst (λ x. Allows H n id x 1 (λ y. y) (looked base_of entries_of writer_of (step n 1 0 0 none) x)) (sym is) (looks n id o c t waits)

  pub counts_as : (n id : ℕ) (m : M) (o : Own V B E) (t : ℕ) (found : List E) (v : V) (k : ℕ) → m ≡ (Member o, (0, Some v) ∷ []) → o.stage ≡ Holds t found → StartsWith (entries_of v) found → All (λ e. writer_of e ≡ o.number) (drop (length found) (entries_of v)) → length found + k ≡ length (entries_of v) → length (entries_of v) < 2 ^ 64
      → Allows H n id m 2 (λ y. (y + k) % 2 ^ 64) (counted entries_of (step n 2 k 0 none) m)
  counts_as n id m o t found v k is holds begins wrote more fits = subst (λ x. Allows H n id x 2 (λ y. (y + k) % 2 ^ 64) (counted entries_of (step n 2 k 0 none) x)) (sym is) (counts n id o t found v k holds begins wrote more fits)

  pub passes_on_as : (n id : ℕ) (m : M) (o : Own V B E) (t : ℕ) (found : List E) (v : V) → m ≡ (Member o, (0, Some v) ∷ []) → o.stage ≡ Holds t found → entries_of v ≡ found → base_of v ≡ o.base → Allows H n id m 1 (λ y. (y + 1) % 2 ^ 64) (passed (step n 1 1 0 none) m)
  passes_on_as n id m o t found v is holds same_entries same_base = subst (λ x. Allows H n id x 1 (λ y. (y + 1) % 2 ^ 64) (passed (step n 1 1 0 none) x)) (sym is) (passes_on n id o t found v holds same_entries same_base)
