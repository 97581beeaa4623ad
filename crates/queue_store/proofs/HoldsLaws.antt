-- What the calls do to queues is what is said of the one list of what waits: `holds` is kept.
use Rattle.std.proofs.Common.{◌≡◌, ◌≢◌, subst, ℕ, zero, suc, Bool, true, false, cond, List, [], ◌∷◌, ◌++◌, refl, sym, ap, ◌∙◌, drop}
use Rattle.std.specs.Prelude.{map as each, if◌then◌else◌, ◌&&◌, ◌||◌, filter, not}
use Rattle.std.proofs.lemmas.List.{append-nil}
use Rattle.estelle_tree.specs.declared.link.IpAddr.{IpAddr}
use Rattle.estelle_tree.specs.Links.{same_ip}
use Rattle.estelle_tree.specs.Paths.{Path, is_inside}
use Rattle.estelle_tree.specs.Queues.{Waiting, waits_at, waits_inside, waiting, in_queue, not_waiting, moved, brought_to, outside_of, without_head}
use Rattle.queue_store.specs.Queues.{Queue, among, some_inside, has, is_declared, queue_of, on_queue, with_items, waiting_at, pushed, taken, moved_all, dropped_below, lies_inside}
use Rattle.queue_store.specs.Holds.{belongs, holds, ApartFrom, AllApart, sharing}
use Rattle.queue_store.proofs.TableLaws.{same_ip-equal, same_ip-refl}
use Rattle.queue_store.proofs.HomeLaws.{false-unless}

filter-append : {A : Type 0} (f : A → Bool) (xs ys : List A) → filter f (xs ++ ys) ≡ filter f xs ++ filter f ys
filter-append f [] ys = refl
filter-append f (x ∷ xs) ys = by (f x) (filter-append f xs ys)
  where
    by : (b : Bool) → filter f (xs ++ ys) ≡ filter f xs ++ filter f ys → cond b (x ∷ filter f (xs ++ ys)) (filter f (xs ++ ys)) ≡ cond b (x ∷ filter f xs) (filter f xs) ++ filter f ys
    by true rest = ap (λ l. x ∷ l) rest
    by false rest = rest

-- two filters commute
filter-swap : {A : Type 0} (f g : A → Bool) (xs : List A) → filter f (filter g xs) ≡ filter g (filter f xs)
filter-swap f g [] = refl
filter-swap f g (x ∷ xs) = by (f x) (g x) refl refl (filter-swap f g xs)
  where
    by : (b c : Bool) → f x ≡ b → g x ≡ c → filter f (filter g xs) ≡ filter g (filter f xs) → filter f (cond c (x ∷ filter g xs) (filter g xs)) ≡ filter g (cond b (x ∷ filter f xs) (filter f xs))
    by true true p q rest =
        ap (λ b. cond b (x ∷ filter f (filter g xs)) (filter f (filter g xs))) p ∙ ap (λ l. x ∷ l) rest
        ∙ sym (ap (λ b. cond b (x ∷ filter g (filter f xs)) (filter g (filter f xs))) q)
    by true false p q rest = rest ∙ sym (ap (λ b. cond b (x ∷ filter g (filter f xs)) (filter g (filter f xs))) q)
    by false true p q rest = ap (λ b. cond b (x ∷ filter f (filter g xs)) (filter f (filter g xs))) p ∙ rest
    by false false p q rest = rest

-- a filter that passes all that another passes does nothing after it
filter-within : {A : Type 0} (f g : A → Bool) → ((x : A) → g x ≡ true → f x ≡ true) → (xs : List A) → filter f (filter g xs) ≡ filter g xs
filter-within f g all [] = refl
filter-within f g all (x ∷ xs) = by (g x) refl (filter-within f g all xs)
  where
    by : (b : Bool) → g x ≡ b → filter f (filter g xs) ≡ filter g xs → filter f (cond b (x ∷ filter g xs) (filter g xs)) ≡ cond b (x ∷ filter g xs) (filter g xs)
    by true p rest = ap (λ b. cond b (x ∷ filter f (filter g xs)) (filter f (filter g xs))) (all x p) ∙ ap (λ l. x ∷ l) rest
    by false p rest = rest

none-inside : (p : Path) (bs : List IpAddr) (a : IpAddr) → some_inside p bs ≡ false → among a bs ≡ true → is_inside p a.path ≡ false
none-inside p [] a out here = absurd (cc)
none-inside p (b ∷ bs) a out here = by (same_ip a b) refl here (is_inside p b.path) refl out (none-inside p bs a)
  where
    by : (s : Bool) → same_ip a b ≡ s → (s || among a bs) ≡ true → (t : Bool) → is_inside p b.path ≡ t → (t || some_inside p bs) ≡ false → (some_inside p bs ≡ false → among a bs ≡ true → is_inside p a.path ≡ false) → is_inside p a.path ≡ false
    by s e h true f o rest = absurd (cc)
    by true e h false f o rest = ap (λ c. is_inside p c.path) (same_ip-equal a b e) ∙ f
    by false e h false f o rest = rest o h

module _ {T : Type 0} where
  -- an item that arrives comes to the end of the list, and of its queue
  pub holds-pushed : (a : IpAddr) (x : T) (qs : List (Queue T)) (mail : List (Waiting T)) → holds qs mail → holds (pushed a x qs) (mail ++ waiting_at a x ∷ [])
  holds-pushed a x [] mail h = tt
  holds-pushed a x (q ∷ qs) mail h = (by (has a q) refl, holds-pushed a x qs mail h.1)
    where
      split : in_queue (belongs q) (mail ++ waiting_at a x ∷ []) ≡ in_queue (belongs q) mail ++ cond (has a q) (waiting_at a x ∷ []) []
      split = filter-append (λ w. belongs q w.at) mail (waiting_at a x ∷ [])

      by : (b : Bool) → has a q ≡ b → (if b then with_items (q.items ++ waiting_at a x ∷ []) q else q).items ≡ in_queue (belongs (if b then with_items (q.items ++ waiting_at a x ∷ []) q else q)) (mail ++ waiting_at a x ∷ [])
      by true e = ap (λ l. l ++ waiting_at a x ∷ []) h.0 ∙ sym (split ∙ ap (λ b. in_queue (belongs q) mail ++ cond b (waiting_at a x ∷ []) []) e)
      by false e = h.0 ∙ sym (split ∙ ap (λ b. in_queue (belongs q) mail ++ cond b (waiting_at a x ∷ []) []) e ∙ append-nil (in_queue (belongs q) mail))

  -- what waits at an instance or below it is gone from the list with the queues
  pub holds-dropped : (p : Path) (qs : List (Queue T)) (mail : List (Waiting T)) → holds qs mail → holds (dropped_below p qs) (outside_of p mail)
  holds-dropped p [] mail h = tt
  holds-dropped p (q ∷ qs) mail h = by (lies_inside p q) refl (holds-dropped p qs mail h.1)
    where
      by : (b : Bool) → lies_inside p q ≡ b → holds (dropped_below p qs) (outside_of p mail) → holds (cond (not b) (q ∷ dropped_below p qs) (dropped_below p qs)) (outside_of p mail)
      by true e rest = rest
      by false e rest =
          let out : (w : Waiting T) → belongs q w.at ≡ true → not (waits_inside p w) ≡ true = λ w here. ap not (none-inside p q.ips w.at e here) in
          (h.0 ∙ sym (filter-swap (λ w. belongs q w.at) (λ w. not (waits_inside p w)) mail ∙ filter-within (λ w. not (waits_inside p w)) (λ w. belongs q w.at) out mail), rest)

  -- what waits at a point is in its queue
  waiting-of : (a : IpAddr) (qs : List (Queue T)) (mail : List (Waiting T)) → holds qs mail → is_declared a qs ≡ true → waiting a (queue_of a qs) ≡ waiting a mail
  waiting-of a [] mail h d = absurd (cc)
  waiting-of a (q ∷ qs) mail h d = by (has a q) refl d (waiting-of a qs mail h.1)
    where
      by : (b : Bool) → has a q ≡ b → (b || is_declared a qs) ≡ true → (is_declared a qs ≡ true → waiting a (queue_of a qs) ≡ waiting a mail) → waiting a (if b then q.items else queue_of a qs) ≡ waiting a mail
      by true e g rest =
          let here : (w : Waiting T) → waits_at a w ≡ true → belongs q w.at ≡ true = λ w at. ap (λ b. among b q.ips) (sym (same_ip-equal a w.at at)) ∙ e in
          ap (waiting a) h.0 ∙ filter-swap (waits_at a) (λ w. belongs q w.at) mail ∙ filter-within (λ w. belongs q w.at) (waits_at a) here mail
      by false e g rest = rest g

  all-brought : (b : IpAddr) (q : Queue T) (t : Bool) → has b q ≡ t → (ws : List (Waiting T)) → in_queue (belongs q) (each (brought_to b) ws) ≡ (if t then each (brought_to b) ws else [])
  all-brought b q true e [] = refl
  all-brought b q false e [] = refl
  all-brought b q true e (w ∷ ws) = ap (λ c. cond c (brought_to b w ∷ in_queue (belongs q) (each (brought_to b) ws)) (in_queue (belongs q) (each (brought_to b) ws))) e ∙ ap (λ l. brought_to b w ∷ l) (all-brought b q true e ws)
  all-brought b q false e (w ∷ ws) = ap (λ c. cond c (brought_to b w ∷ in_queue (belongs q) (each (brought_to b) ws)) (in_queue (belongs q) (each (brought_to b) ws))) e ∙ all-brought b q false e ws

  -- a queue without the items of a point, and the list without them
  kept-part : (a : IpAddr) (q : Queue T) (mail : List (Waiting T)) → q.items ≡ in_queue (belongs q) mail → (s : Bool) → has a q ≡ s
      → (if s then with_items (not_waiting a q.items) q else q).items ≡ in_queue (belongs q) (not_waiting a mail)
  kept-part a q mail h true e = ap (not_waiting a) h ∙ filter-swap (λ w. not (waits_at a w)) (λ w. belongs q w.at) mail
  kept-part a q mail h false e =
      let away : (w : Waiting T) → belongs q w.at ≡ true → not (waits_at a w) ≡ true =
      λ w here. ap not (false-unless (waits_at a w) (λ at. let clash : true ≡ false = sym here ∙ ap (λ b. among b q.ips) (sym (same_ip-equal a w.at at)) ∙ e in cc)) in
      h ∙ sym (filter-swap (λ w. belongs q w.at) (λ w. not (waits_at a w)) mail ∙ filter-within (λ w. not (waits_at a w)) (λ w. belongs q w.at) away mail)

  -- what waits at a point goes to the end of the list, and waits at the other
  moved-each : (a b : IpAddr) (ws : List (Waiting T)) (qs : List (Queue T)) (mail : List (Waiting T)) → holds qs mail → ws ≡ waiting a mail
      → holds (on_queue b (λ q. with_items (q.items ++ each (brought_to b) ws) q) (on_queue a (λ q. with_items (not_waiting a q.items) q) qs)) (moved a b mail)
  moved-each a b ws [] mail h e = tt
  moved-each a b ws (q ∷ qs) mail h e = (by (has a q) refl, moved-each a b ws qs mail h.1 e)
    where
      split : in_queue (belongs q) (moved a b mail) ≡ in_queue (belongs q) (not_waiting a mail) ++ (if has b q then each (brought_to b) (waiting a mail) else [])
      split =
          filter-append (λ w. belongs q w.at) (not_waiting a mail) (each (brought_to b) (waiting a mail))
          ∙ ap (λ l. in_queue (belongs q) (not_waiting a mail) ++ l) (all-brought b q (has b q) refl (waiting a mail))

      part : (items : List (Waiting T)) → items ≡ in_queue (belongs q) (not_waiting a mail) → (t : Bool) → has b q ≡ t
          → (if t then with_items (items ++ each (brought_to b) ws) q else with_items items q).items
          ≡ in_queue (belongs (if t then with_items (items ++ each (brought_to b) ws) q else with_items items q)) (moved a b mail)
      part items k true r =
          ap (λ l. l ++ each (brought_to b) ws) k ∙ ap (λ l. in_queue (belongs q) (not_waiting a mail) ++ each (brought_to b) l) e
          ∙ sym (split ∙ ap (λ c. in_queue (belongs q) (not_waiting a mail) ++ (if c then each (brought_to b) (waiting a mail) else [])) r)
      part items k false r =
          k ∙ sym (split ∙ ap (λ c. in_queue (belongs q) (not_waiting a mail) ++ (if c then each (brought_to b) (waiting a mail) else [])) r ∙ append-nil (in_queue (belongs q) (not_waiting a mail)))

      by : (s : Bool) → has a q ≡ s
          → (if has b (if s then with_items (not_waiting a q.items) q else q) then with_items ((if s then with_items (not_waiting a q.items) q else q).items ++ each (brought_to b) ws) (if s then with_items (not_waiting a q.items) q else q) else (if s then with_items (not_waiting a q.items) q else q)).items
          ≡ in_queue (belongs (if has b (if s then with_items (not_waiting a q.items) q else q) then with_items ((if s then with_items (not_waiting a q.items) q else q).items ++ each (brought_to b) ws) (if s then with_items (not_waiting a q.items) q else q) else (if s then with_items (not_waiting a q.items) q else q))) (moved a b mail)
      by true p = part (not_waiting a q.items) (kept-part a q mail h.0 true p) (has b q) refl
      by false p = part q.items (kept-part a q mail h.0 false p) (has b q) refl

  pub holds-moved : (a b : IpAddr) (qs : List (Queue T)) (mail : List (Waiting T)) → is_declared a qs ≡ true → holds qs mail → holds (moved_all a b qs) (moved a b mail)
  holds-moved a b qs mail d h = moved-each a b (waiting a (queue_of a qs)) qs mail h (waiting-of a qs mail h d)

  -- ---- the first of a queue is taken

  taken-own : (f : IpAddr → Bool) (mail : List (Waiting T)) → in_queue f (without_head f mail) ≡ drop 1 (in_queue f mail)
  taken-own f [] = refl
  taken-own f (w ∷ ws) = by (f w.at) refl (taken-own f ws)
    where
      by : (b : Bool) → f w.at ≡ b → in_queue f (without_head f ws) ≡ drop 1 (in_queue f ws) → in_queue f (if b then ws else w ∷ without_head f ws) ≡ drop 1 (cond b (w ∷ in_queue f ws) (in_queue f ws))
      by true e rest = refl
      by false e rest = ap (λ b. cond b (w ∷ in_queue f (without_head f ws)) (in_queue f (without_head f ws))) e ∙ rest

  taken-other : (f g : IpAddr → Bool) → ((a : IpAddr) → f a ≡ true → g a ≡ false) → (mail : List (Waiting T)) → in_queue g (without_head f mail) ≡ in_queue g mail
  taken-other f g apart [] = refl
  taken-other f g apart (w ∷ ws) = by (f w.at) refl (taken-other f g apart ws)
    where
      by : (b : Bool) → f w.at ≡ b → in_queue g (without_head f ws) ≡ in_queue g ws → in_queue g (if b then ws else w ∷ without_head f ws) ≡ cond (g w.at) (w ∷ in_queue g ws) (in_queue g ws)
      by true e rest = sym (ap (λ b. cond b (w ∷ in_queue g ws) (in_queue g ws)) (apart w.at e))
      by false e rest = ap (λ l. cond (g w.at) (w ∷ l) l) rest

  sharing-apart : (a : IpAddr) (q : Queue T) (qs : List (Queue T)) → ApartFrom q qs → (b : IpAddr) → sharing a qs b ≡ true → among b q.ips ≡ false
  sharing-apart a q [] p b h = absurd (cc)
  sharing-apart a q (r ∷ rs) p b h = by (has a r) h (sharing-apart a q rs p.1 b)
    where
      by : (s : Bool) → (if s then among b r.ips else sharing a rs b) ≡ true → (sharing a rs b ≡ true → among b q.ips ≡ false) → among b q.ips ≡ false
      by true g rest = false-unless (among b q.ips) (λ here. let clash : true ≡ false = sym g ∙ p.0 b here in cc)
      by false g rest = rest g

  -- queues that are apart from one keep what they hold when its first is taken, and none of them has its points
  rest-taken : (a : IpAddr) (q : Queue T) → has a q ≡ true → (qs : List (Queue T)) → ApartFrom q qs → (mail : List (Waiting T)) → holds qs mail
      → holds (on_queue a (λ r. with_items (drop 1 r.items) r) qs) (without_head (belongs q) mail)
  rest-taken a q here [] p mail h = tt
  rest-taken a q here (r ∷ rs) p mail h = (
    subst (λ b. (if b then with_items (drop 1 r.items) r else r).items ≡ in_queue (belongs (if b then with_items (drop 1 r.items) r else r)) (without_head (belongs q) mail))
        (sym (p.0 a here)) (h.0 ∙ sym (taken-other (belongs q) (belongs r) p.0 mail)),
    rest-taken a q here rs p.1 mail h.1,
  )

  pub holds-taken : (a : IpAddr) (qs : List (Queue T)) (mail : List (Waiting T)) → AllApart qs → holds qs mail → holds (taken a qs) (without_head (sharing a qs) mail)
  holds-taken a [] mail p h = tt
  holds-taken a (q ∷ qs) mail p h = by (has a q) refl (holds-taken a qs mail p.1 h.1)
    where
      by : (b : Bool) → has a q ≡ b → holds (taken a qs) (without_head (sharing a qs) mail)
          → ((if b then with_items (drop 1 q.items) q else q).items ≡ in_queue (belongs (if b then with_items (drop 1 q.items) q else q)) (without_head (λ c. if b then among c q.ips else sharing a qs c) mail))
          × holds (taken a qs) (without_head (λ c. if b then among c q.ips else sharing a qs c) mail)
      by true e rest = (ap (drop 1) h.0 ∙ sym (taken-own (belongs q) mail), rest-taken a q e qs p.0 mail h.1)
      by false e rest = (h.0 ∙ sym (taken-other (sharing a qs) (belongs q) (sharing-apart a q qs p.0) mail), rest)
