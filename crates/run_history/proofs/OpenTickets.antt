-- Open tickets: which they are, and how they go on.
use Rattle.std.proofs.Common.{◌≡◌, ◌≢◌, ℕ, ◌+◌, ◌<◌, Bool, true, false, List, [], ◌∷◌, ◌++◌, length, Option, None, refl, sym, ap, subst, ◌∙◌, ◌⊎◌, inl, inr, ⊎_elim, arith, append_assoc, append-nil, length-append, map-id}
use Rattle.std.specs.Prelude.{not, nat_eq, fold, filter, IfSome, All, AllPairs, Contains}
use Rattle.std.specs.List.{find, list_any, range_with_len, cons_option}
use Rattle.std.specs.Option.{option_or}
use Rattle.std.specs.Str.{bytes_eq}
use Rattle.std.proofs.lemmas.List.Elements.{filter_map-append, All-nil, All-cons, All-head, All-tail, All-push, All-filter, All-contains, Contains-append_left, Contains-push, Contains-push_cases}
use Rattle.std.proofs.lemmas.List.Folds.{find-append}
use Rattle.std.proofs.lemmas.List.FromFn.{map-range_with_len_more}
use Rattle.std.proofs.lemmas.List.Kept.{AllPairs-filter}
use Rattle.std.proofs.lemmas.List.Sums.{fold-append}
use Rattle.estelle_tree.specs.Paths.{Path}
use Rattle.estelle_tree.specs.Timers.{pair}
use Rattle.estelle_tree.specs.declared.transition.Pair.{Pair}
use Rattle.estelle_model.specs.declared.job.Job.{Job}
use Rattle.estelle_model.specs.Subject.{Subject}
use Rattle.estelle_model.specs.Runs.{same_pair, situation}
use Rattle.estelle_model_legality.proofs.Lists.{and_both, both_and, not_true, not_both, is_not, number_is, same_number, path_is, same_path, of_each, each_of, not_any, any_of}
use Rattle.run_history.specs.declared.entry.Entry.{Entry}
use Rattle.run_history.specs.declared.entry.Taken.{Taken}
use Rattle.run_history.specs.declared.entry.What.{What}
use Rattle.run_history.specs.declared.entry.What.TheVariants as what
use Rattle.run_history.specs.Histories.{project}
use Rattle.run_history.specs.Tickets.{ticket_of, tickets, AreInOrder, settled_by, settled_in, settles, IsTake, IsOpen, MayTake, AreTickets, IsJobOf}
use Rattle.run_history.specs.OpenTickets.{after_what, open_in, untaken, MayFollow}
use Rattle.run_history.proofs.Lists.{AsLast, WithLast, at_last, all_unfound, none_found, unfound_by, found_more, of_filter, in_filter, pairs_more}

abbrev IsOpenBy : List Entry → Taken → Type 0
IsOpenBy es o = (i : IsOpen es o.ticket o.path o.trans) × (i.by ≡ o.by)

-- the entry is not what settles it
abbrev Leaves : Taken → Entry → Type 0
Leaves o e = settles o.path o.trans e ≡ false

-- what is open behind entries that come when these are
abbrev from : List Taken → List Entry → List Taken
from os es = fold (λ xs e. after_what e.by e.what xs) os es

abbrev entry_of : Taken → Entry
entry_of o = record { by = o.by; what = what.Take o.ticket o.path o.trans }

pub open_append : (es more : List Entry) → open_in (es ++ more) ≡ from (open_in es) more
open_append es more = fold-append (λ xs e. after_what e.by e.what xs) [] es more

-- one more entry
pub open_more : (es : List Entry) (e : Entry) → open_in (es ++ e ∷ []) ≡ after_what e.by e.what (open_in es)
open_more es e = open_append es (e ∷ [])

-- ---- which they are

-- behind one more entry in front
open_later : (e : Entry) (es : List Entry) (o : Taken) → IsOpenBy es o → IsOpenBy (e ∷ es) o
open_later e es o i = (record { by = i.0.by; before = e ∷ i.0.before; after = i.0.after; take = record { stands = ap (λ l. e ∷ l) i.0.take.stands }; unsettled = i.0.unsettled }, i.1)

-- it was open before and nothing settles it, or it is taken in these entries
from_listed : (es : List Entry) (os : List Taken) (o : Taken) → Contains (from os es) o → (Contains os o × All (Leaves o) es) ⊎ IsOpenBy es o
from_listed [] os o c = inl (c, All-nil (Leaves o))
from_listed (e ∷ es) os o c = by e.what (λ xs d. from_listed es xs o d) c
  where
    by : (w : What) → ((xs : List Taken) → Contains (from xs es) o → (Contains xs o × All (Leaves o) es) ⊎ IsOpenBy es o) → Contains (from (after_what e.by w os) es) o → (Contains os o × All (Leaves o) ((record e { what = w }) ∷ es)) ⊎ IsOpenBy ((record e { what = w }) ∷ es) o
    by (what.Take k m n) rest d =
        ⊎_elim
        (λ (x : Contains (os ++ (record { ticket = k; path = m; trans = n; by = e.by }) ∷ []) o × All (Leaves o) es).
        ⊎_elim
        (λ (old : Contains os o). inl (old, All-cons (Leaves o) (record e { what = what.Take k m n }) es refl x.1))
        (λ (new : record { ticket = k; path = m; trans = n; by = e.by } ≡ o).
        inr (record { by = o.by; before = []; after = es; take = record { stands = λ i. entry_of (new i) ∷ es }; unsettled = x.1 }, refl))
        (Contains-push_cases os (record { ticket = k; path = m; trans = n; by = e.by }) o x.0))
        (λ (x : IsOpenBy es o). inr (open_later (record e { what = what.Take k m n }) es o x))
        (rest (os ++ (record { ticket = k; path = m; trans = n; by = e.by }) ∷ []) d)
    by (what.Event ev) rest d =
        ⊎_elim
        (λ (x : Contains (filter (λ q. not (settled_by q.path q.trans ev)) os) o × All (Leaves o) es).
        let y = of_filter (λ (q : Taken). not (settled_by q.path q.trans ev)) os o x.0 in
        inl (y.0, All-cons (Leaves o) (record e { what = what.Event ev }) es (is_not (settled_by o.path o.trans ev) y.1) x.1))
        (λ (x : IsOpenBy es o). inr (open_later (record e { what = what.Event ev }) es o x))
        (rest (filter (λ q. not (settled_by q.path q.trans ev)) os) d)
    by (what.Ended end) rest d =
        ⊎_elim
        (λ (x : Contains os o × All (Leaves o) es). inl (x.0, All-cons (Leaves o) (record e { what = what.Ended end }) es refl x.1))
        (λ (x : IsOpenBy es o). inr (open_later (record e { what = what.Ended end }) es o x))
        (rest os d)

-- what was open and is left stays
stays : (es : List Entry) (os : List Taken) (o : Taken) → Contains os o → All (Leaves o) es → Contains (from os es) o
stays [] os o c h = c
stays (e ∷ es) os o c h = stays es (after_what e.by e.what os) o (by e.what (All-head (Leaves o) e es h)) (All-tail (Leaves o) e es h)
  where
    by : (w : What) → settled_in o.path o.trans w ≡ false → Contains (after_what e.by w os) o
    by (what.Take k m n) left = Contains-append_left os ((record { ticket = k; path = m; trans = n; by = e.by }) ∷ []) o c
    by (what.Event ev) left = in_filter (λ (q : Taken). not (settled_by q.path q.trans ev)) os o c (ap not left)
    by (what.Ended end) left = c

-- what is taken and left is there
comes : (before after : List Entry) (os : List Taken) (o : Taken) → All (Leaves o) after → Contains (from os (before ++ entry_of o ∷ after)) o
comes [] after os o h = stays after (os ++ o ∷ []) o (Contains-push os o) h
comes (e ∷ before) after os o h = comes before after (after_what e.by e.what os) o h

pub open_listed : (es : List Entry) (o : Taken) → Contains (open_in es) o → IsOpenBy es o
open_listed es o c =
    ⊎_elim (λ (x : Contains [] o × All (Leaves o) es). let y = x.0 in absurd (omega (arith, y.1))) (λ (x : IsOpenBy es o). x) (from_listed es [] o c)

pub listed_open : (es : List Entry) (o : Taken) → IsOpenBy es o → Contains (open_in es) o
listed_open es o i =
    let stands : es ≡ i.0.before ++ entry_of o ∷ i.0.after = i.0.take.stands ∙ ap (λ (by : ℕ). i.0.before ++ (record { by = by; what = what.Take o.ticket o.path o.trans }) ∷ i.0.after) i.1 in
    subst (λ l. Contains (open_in l) o) (sym stands) (comes i.0.before i.0.after [] o i.0.unsettled)

-- ---- in which order

abbrev Rising : List Taken → Type 0
Rising = AllPairs (λ (a b : Taken). a.ticket < b.ticket)

rises : (es : List Entry) (os : List Taken) (next : ℕ) → Rising os → All (λ o. o.ticket < next) os → tickets es ≡ range_with_len next (length (tickets es)) → Rising (from os es)
rises [] os next r below is = r
rises (e ∷ es) os next r below is = by e.what (λ xs n. rises es xs n) is
  where
    by : (w : What) → ((xs : List Taken) (n : ℕ) → Rising xs → All (λ o. o.ticket < n) xs → tickets es ≡ range_with_len n (length (tickets es)) → Rising (from xs es)) → tickets ((record e { what = w }) ∷ es) ≡ range_with_len next (length (tickets ((record e { what = w }) ∷ es))) → Rising (from (after_what e.by w os) es)
    by (what.Take k m n) rest same =
        let it : Taken = record { ticket = k; path = m; trans = n; by = e.by } in
        let head : k ≡ next = cc in
        let tail : tickets es ≡ range_with_len (next + 1) (length (tickets es)) = cc in
        rest (os ++ it ∷ []) (next + 1)
        (pairs_more (λ (a b : Taken). a.ticket < b.ticket) os it r (subst (λ (z : ℕ). All (λ o. o.ticket < z) os) (sym head) below))
        (All-push (λ o. o.ticket < next + 1) os it (λ i d lt. let b = below i d lt in omega (arith, b)) (omega (arith, head)))
        tail
    by (what.Event ev) rest same =
        rest (filter (λ q. not (settled_by q.path q.trans ev)) os) next (AllPairs-filter (λ (a b : Taken). a.ticket < b.ticket) (λ q. not (settled_by q.path q.trans ev)) os r) (All-filter (λ q. not (settled_by q.path q.trans ev)) (λ o. o.ticket < next) os below) same
    by (what.Ended end) rest same = rest os next r below same

pub open_rise : (es : List Entry) → AreInOrder es → Rising (open_in es)
open_rise es h = rises es [] 1 (λ i j d lt within. absurd (omega (arith, within))) (All-nil (λ o. o.ticket < 1)) h

-- ---- what is taken next

pub same_is : (o : Taken) (m : Path) (n : ℕ) → same_pair (pair o.path o.trans) (pair m n) ≡ true → (o.path ≡ m) × (o.trans ≡ n)
same_is o m n e = let x = and_both (bytes_eq o.path m) (nat_eq o.trans n) e in (same_path o.path m x.0, same_number o.trans n x.1)

module _ (s : Subject) (budget : ℕ) (es : List Entry) (m : Path) (n : ℕ) where
  abbrev taken_by : Taken → Bool
  taken_by o = same_pair (pair o.path o.trans) (pair m n)

  abbrev is_untaken : Pair → Bool
  is_untaken p = not (list_any (λ (o : Taken). same_pair (pair o.path o.trans) p) (open_in es))

  -- what is pending and untaken may be taken
  pub untaken_may_be : Contains (untaken (open_in es) (situation s budget (project es)).pending) (pair m n) → MayTake s budget es m n
  untaken_may_be c =
      let x = of_filter is_untaken (situation s budget (project es)).pending (pair m n) c in
      record {
        pending = x.0;
        free = λ k i.
            let o : Taken = record { ticket = k; path = m; trans = n; by = i.by } in
            let here : Contains (open_in es) o = listed_open es o (i, refl) in
            let no : taken_by o ≡ false = of_each Taken (λ q. taken_by q ≡ false) (open_in es) (not_any Taken taken_by (open_in es) (is_not (list_any taken_by (open_in es)) x.1)) o here in
            not_both (taken_by o) (both_and (bytes_eq m m) (nat_eq n n) (path_is m) (number_is n)) no;
      }

  -- and what may be taken is pending and untaken
  pub may_be_untaken : MayTake s budget es m n → Contains (untaken (open_in es) (situation s budget (project es)).pending) (pair m n)
  may_be_untaken may =
      in_filter is_untaken (situation s budget (project es)).pending (pair m n) may.pending
      (ap not (any_of Taken taken_by (open_in es) (each_of Taken (λ o. taken_by o ≡ false) (open_in es) (λ o c. not_true (taken_by o) (λ e.
      let i = open_listed es o c in
      let same = same_is o m n e in
      may.free o.ticket (subst (λ (z : Path × ℕ). IsOpen es o.ticket z.0 z.1) (λ j. (same.0 j, same.1 j)) i.0))))))

-- ---- how they go on

pub tickets_append : (es more : List Entry) → tickets (es ++ more) ≡ tickets es ++ tickets more
tickets_append es more = filter_map-append (λ (x : Entry). ticket_of x.what) es more

pub tickets_same : (es : List Entry) (e : Entry) → ticket_of e.what ≡ None → tickets (es ++ e ∷ []) ≡ tickets es
tickets_same es e none = tickets_append es (e ∷ []) ∙ ap (λ (o : Option ℕ). tickets es ++ cons_option o []) none ∙ append-nil (tickets es)

pub in_order_same : (es : List Entry) (e : Entry) → ticket_of e.what ≡ None → AreInOrder es → AreInOrder (es ++ e ∷ [])
in_order_same es e none h = tickets_same es e none ∙ h ∙ ap (λ (ks : List ℕ). range_with_len 1 (length ks)) (sym (tickets_same es e none))

range_more : (a c : ℕ) → range_with_len a (c + 1) ≡ range_with_len a c ++ (a + c) ∷ []
range_more a c = sym (map-id (range_with_len a (c + 1))) ∙ map-range_with_len_more (λ x. x) a c (a + c) refl ∙ ap (λ xs. xs ++ (a + c) ∷ []) (map-id (range_with_len a c))

pub in_order_more : (es : List Entry) (k : ℕ) (m : Path) (n by : ℕ) → k ≡ length (tickets es) + 1 → AreInOrder es → AreInOrder (es ++ (record { by = by; what = what.Take k m n }) ∷ [])
in_order_more es k m n by next h =
    let more : tickets (es ++ (record { by = by; what = what.Take k m n }) ∷ []) ≡ tickets es ++ k ∷ [] = tickets_append es ((record { by = by; what = what.Take k m n }) ∷ []) in
    let count : length (tickets es ++ k ∷ []) ≡ length (tickets es) + 1 = length-append (tickets es) (k ∷ []) in
    let same : 1 + length (tickets es) ≡ k = omega (arith, next) in
    more ∙ ap (λ xs. xs ++ k ∷ []) h ∙ ap (λ x. range_with_len 1 (length (tickets es)) ++ x ∷ []) (sym same) ∙ sym (range_more 1 (length (tickets es))) ∙ ap (range_with_len 1) (sym (ap length more ∙ count))

module _ (s : Subject) (budget : ℕ) (es : List Entry) (e : Entry) (t : AreTickets s budget es) where
  abbrev Splits : (k n by : ℕ) (m : Path) (before after : List Entry) → Type 0
  Splits k n by m before after = AsLast es e before (record { by = by; what = what.Take k m n }) after ⊎ WithLast es e before (record { by = by; what = what.Take k m n }) after

  -- one more entry: a take of what may be taken, or one that settles nothing but its own writer's
  pub one_more : AreInOrder (es ++ e ∷ []) → ((k n by : ℕ) (m : Path) → e ≡ record { by = by; what = what.Take k m n } → MayTake s budget es m n) → ((o : Taken) → Contains (open_in es) o → settles o.path o.trans e ≡ true → e.by ≡ o.by) → AreTickets s budget (es ++ e ∷ [])
  one_more in_order may own = record {
    in_order = in_order;
    taken = λ k n by m before after take. taken k n by m before after (at_last es e before (record { by = by; what = what.Take k m n }) after take.stands);
    by_taker = λ k n by m before after take. by_taker k n by m before after (at_last es e before (record { by = by; what = what.Take k m n }) after take.stands);
  }
    where
      taken : (k n by : ℕ) (m : Path) (before after : List Entry) → Splits k n by m before after → MayTake s budget before m n
      taken k n by m before after (inl a) = subst (λ bs. MayTake s budget bs m n) a.before (may k n by m a.it)
      taken k n by m before after (inr a) = t.taken k n by m before a.rest (record { stands = a.before })

      by_taker : (k n by : ℕ) (m : Path) (before after : List Entry) → Splits k n by m before after → IfSome (find (settles m n) after) (λ x. x.by ≡ by)
      by_taker k n by m before after (inl a) = subst (λ l. IfSome (find (settles m n) l) (λ x. x.by ≡ by)) (sym a.none) tt
      by_taker k n by m before after (inr a) =
          let take : IsTake es k m n by before a.rest = record { stands = a.before } in
          let o : Taken = record { ticket = k; path = m; trans = n; by = by } in
          subst (λ l. IfSome (find (settles m n) l) (λ x. x.by ≡ by)) (sym a.after)
          (found_more (settles m n) (λ x. x.by ≡ by) a.rest e (t.by_taker k n by m before a.rest take)
          (λ none it. own o (listed_open es o (record { by = by; before = before; after = a.rest; take = take; unsettled = all_unfound (settles m n) a.rest none }, refl)) it))

pub goes_on : (s : Subject) (budget : ℕ) (es : List Entry) (e : Entry) → AreTickets s budget es → MayFollow s budget es e.by e.what → AreTickets s budget (es ++ e ∷ [])
goes_on s budget es e t may = by e.what may
  where
    by : (w : What) → MayFollow s budget es e.by w → AreTickets s budget (es ++ (record e { what = w }) ∷ [])
    by (what.Take k m n) may =
        one_more s budget es (record e { what = what.Take k m n }) t (in_order_more es k m n e.by may.0 t.in_order)
        (λ k' n' by' m' same.
        let w : what.Take k m n ≡ what.Take k' m' n' = ap (λ (x : Entry). x.what) same in
        let path : m ≡ m' = cc in
        let trans : n ≡ n' = cc in
        subst (λ (z : Path × ℕ). MayTake s budget es z.0 z.1) (λ j. (path j, trans j)) (untaken_may_be s budget es m n may.1))
        (λ o c no. let wrong : false ≡ true = no in absurd (cc))
    by (what.Event ev) may =
        one_more s budget es (record e { what = what.Event ev }) t (in_order_same es (record e { what = what.Event ev }) refl t.in_order)
        (λ k n by' m same. let wrong : what.Event ev ≡ what.Take k m n = ap (λ (x : Entry). x.what) same in absurd (cc))
        (λ o c it. sym (All-contains (λ (q : Taken). settled_by q.path q.trans ev ≡ true → q.by ≡ e.by) (open_in es) o may c it))
    by (what.Ended end) may =
        one_more s budget es (record e { what = what.Ended end }) t (in_order_same es (record e { what = what.Ended end }) refl t.in_order)
        (λ k n by' m same. let wrong : what.Ended end ≡ what.Take k m n = ap (λ (x : Entry). x.what) same in absurd (cc))
        (λ o c no. let wrong : false ≡ true = no in absurd (cc))

pub stay_open : (s : Subject) (budget : ℕ) (es more : List Entry) (o : Taken) → AreTickets s budget (es ++ more) → Contains (open_in es) o → All (λ e. e.by ≢ o.by) more → Contains (open_in (es ++ more)) o
stay_open s budget es more o t c others =
    let i = open_listed es o c in
    let p : Entry → Bool = settles o.path o.trans in
    let take : IsTake (es ++ more) o.ticket o.path o.trans i.0.by i.0.before (i.0.after ++ more) = record { stands = ap (λ l. l ++ more) i.0.take.stands ∙ append_assoc i.0.before _ more } in
    let found : find p (i.0.after ++ more) ≡ find p more = find-append p i.0.after more ∙ ap (λ x. option_or x (find p more)) (none_found p i.0.after i.0.unsettled) in
    let own : IfSome (find p more) (λ x. x.by ≡ i.0.by) = subst (λ x. IfSome x (λ (y : Entry). y.by ≡ i.0.by)) found (t.by_taker o.ticket o.trans i.0.by o.path i.0.before (i.0.after ++ more) take) in
    subst (λ l. Contains l o) (sym (open_append es more))
    (stays more (open_in es) o c (unfound_by p (λ x. x.by ≡ i.0.by) more (λ k d lt same. others k d lt (same ∙ i.1)) own))

pub job_stays : (s : Subject) (budget : ℕ) (es more : List Entry) (job : Job) → IsJobOf s budget es job → IsJobOf s budget (es ++ more) job
job_stays s budget es more job j = record {
  by = j.by;
  before = j.before;
  after = j.after ++ more;
  take = record { stands = ap (λ l. l ++ more) j.take.stands ∙ append_assoc j.before _ more };
  budget_is = j.budget_is;
  in_situation = j.in_situation;
}
