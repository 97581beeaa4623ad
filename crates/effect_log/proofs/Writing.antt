-- The records of the image, written into the tree, are those of the situation.
use Rattle.std.proofs.Common.{◌≡◌, ℕ, Bool, true, false, cond, List, [], ◌∷◌, ◌++◌, map as each, Option, Some, None, refl, sym, ap, subst, ◌∙◌}
use Rattle.std.specs.Prelude.{not, fold, option_map}
use Rattle.std.specs.FinMap as map
use Rattle.std.specs.FinMap.{find}
use Rattle.std.specs.Ordering.{eq_by_cmp}
use Rattle.std.proofs.lemmas.Cmp.{nat_list_eq_equiv}
use Rattle.estelle_tree.specs.declared.link.IpAddr.{IpAddr}
use Rattle.estelle_tree.specs.Paths.{Path, path_cmp, is_inside}
use Rattle.module_tree.specs.Trees as trees
use Rattle.module_tree.specs.Nodes.{same}
use Rattle.module_tree.proofs.Seen.{get_changed}
use Rattle.module_tree.proofs.Paths.{same_is}
use Rattle.estelle_model.specs.declared.image.Part.{Part}
use Rattle.estelle_model.specs.declared.image.Image.{Image}
use Rattle.estelle_model.specs.declared.meaning.InteractionPoint.{InteractionPoint}
use Rattle.estelle_model.specs.Core.{Instance, Instances}
use Rattle.estelle_model.specs.Subject.{Subject}
use Rattle.estelle_model.specs.Situation.{Acting}
use Rattle.estelle_model.specs.Jobs.{part_of_entry, insert_part, private, Shows, overlaid, with_records, outline, outline_of_parts}
use Rattle.estelle_model.proofs.Maps.{get_inserted, told}
use Rattle.std.specs.Option.{option_or}
use Rattle.estelle_model.proofs.PrivateParts.{get_inside, told_parts, body_of, point_same}
use Rattle.effect_log.specs.declared.shared.Shared.{Shared}
use Rattle.effect_log.specs.Standing.{kept_of, AreQueuesOf, Stands}
use Rattle.effect_log.specs.Underway.{StandsBut, outline_of, kept_outline, written}
use Rattle.effect_log.proofs.Filing.{filed-alike}
use Rattle.effect_log.proofs.Points.{discipline, get-outside, key-same}
use Rattle.effect_log.proofs.After.{filed-of, queues-of}

-- the record of an entry, if there is one, in place of that of an instance
abbrev rewritten : Path → Option Instance → Option (trees.Instance Part) → Option (trees.Instance Part)
rewritten q None o = o
rewritten q (Some i) o = option_map (trees.with_other_part (part_of_entry (q, i))) o

-- what is found, once the records of entries were written
get-written : (t : trees.Instances Part) (es : List (Path × Instance)) (q : Path) → map.get (written (each part_of_entry es) t) q ≡ rewritten q (find path_cmp q es) (map.get t q)
get-written t [] q = refl
get-written t (e ∷ es) q =
    get_changed (written (each part_of_entry es) t) e.0 (trees.with_other_part (part_of_entry e)) q
    ∙ by (same e.0 q) refl (get-written t es q)
    ∙ ap (λ b. rewritten q (cond b (Some e.1) (find path_cmp q es)) (map.get t q)) (sym (key-same q e.0 ∙ nat_list_eq_equiv.symm q e.0))
  where
    twice : (o : Option (trees.Instance Part)) (n : Option Instance) → option_map (trees.with_other_part (part_of_entry (q, e.1))) (rewritten q n o) ≡ option_map (trees.with_other_part (part_of_entry (q, e.1))) o
    twice None None = refl
    twice None (Some i) = refl
    twice (Some u) None = refl
    twice (Some u) (Some i) = refl

    by : (b : Bool) → same e.0 q ≡ b → map.get (written (each part_of_entry es) t) q ≡ rewritten q (find path_cmp q es) (map.get t q)
        → cond b (option_map (trees.with_other_part (part_of_entry e)) (map.get (written (each part_of_entry es) t) q)) (map.get (written (each part_of_entry es) t) q)
        ≡ rewritten q (cond b (Some e.1) (find path_cmp q es)) (map.get t q)
    by true h rest =
        ap (λ r. option_map (trees.with_other_part (part_of_entry (r, e.1))) (map.get (written (each part_of_entry es) t) q)) (same_is e.0 q h)
        ∙ ap (option_map (trees.with_other_part (part_of_entry (q, e.1)))) rest ∙ twice (map.get t q) (find path_cmp q es)
    by false h rest = rest

told-found : {A : Type 0} (f : Instance → A) (es : List (Path × Instance)) (q : Path) → find path_cmp q (told f es) ≡ option_map f (find path_cmp q es)
told-found f [] q = refl
told-found f (e ∷ es) q = by (eq_by_cmp path_cmp q e.0) (told-found f es q)
  where
    by : (b : Bool) → find path_cmp q (told f es) ≡ option_map f (find path_cmp q es) → cond b (Some (f e.1)) (find path_cmp q (told f es)) ≡ option_map f (cond b (Some e.1) (find path_cmp q es))
    by true h = refl
    by false h = h

-- the last record is written first
pub written-last : (t : trees.Instances Part) (ps : List Part) (p : Part) → written (ps ++ p ∷ []) t ≡ written ps (trees.changed t p.path (trees.with_other_part p))
written-last t [] p = refl
written-last t (q ∷ ps) p = ap (λ u. trees.changed u q.path (trees.with_other_part q)) (written-last t ps p)

module _ (s : Subject) (m : Path) (a : Acting) (image : Image)
    (outlined : outline m a.situation.core.instances ≡ outline_of_parts image.parts)
    (shows : Shows image (private s (with_records m image.parts a).situation.core m)) where
  -- the instances before and after the records
  abbrev before : Instances
  before = a.situation.core.instances

  abbrev after : Instances
  after = overlaid m image.parts before

  abbrev own : List (Path × Instance)
  own = map.entries (map.retain_keys after (is_inside m))

  -- the entries of the image are those at and below m
  own-found : (q : Path) → find path_cmp q own ≡ cond (is_inside m q) (map.get after q) None
  own-found q = sym (map.get-entries (map.retain_keys after (is_inside m)) q) ∙ get_inside after m q

  others-found : (q : Path) → is_inside m q ≡ false → map.get after q ≡ map.get before q
  others-found q out =
      ap (λ ps. map.get (fold insert_part (map.retain_keys before (λ q. not (is_inside m q))) ps) q) shows.parts
      ∙ get_inserted (map.retain_keys before (λ q. not (is_inside m q))) own (map.entries_sorted (map.retain_keys after (is_inside m))) q
      ∙ (λ i. option_or ((own-found q ∙ ap (λ b. cond b (map.get after q) None) out) i) ((get-outside before m q ∙ ap (λ b. cond b None (map.get before q)) out) i))

  -- the bodies and births at and below m are as before
  own-outlines : (q : Path) → is_inside m q ≡ true → option_map outline_of (map.get before q) ≡ option_map outline_of (map.get after q)
  own-outlines q inside =
      let here : find path_cmp q (map.entries (map.retain_keys before (is_inside m))) ≡ map.get before q =
      sym (map.get-entries (map.retain_keys before (is_inside m)) q) ∙ get_inside before m q ∙ ap (λ b. cond b (map.get before q) None) inside in
      let there : find path_cmp q own ≡ map.get after q = own-found q ∙ ap (λ b. cond b (map.get after q) None) inside in
      ap (option_map outline_of) (sym here) ∙ sym (told-found outline_of (map.entries (map.retain_keys before (is_inside m))) q)
      ∙ ap (find path_cmp q) (outlined ∙ ap outline_of_parts shows.parts ∙ told_parts own)
      ∙ told-found outline_of own q ∙ ap (option_map outline_of) there

  outlines-same : (q : Path) → option_map outline_of (map.get before q) ≡ option_map outline_of (map.get after q)
  outlines-same q = by (is_inside m q) refl
    where
      by : (b : Bool) → is_inside m q ≡ b → option_map outline_of (map.get before q) ≡ option_map outline_of (map.get after q)
      by true e = own-outlines q e
      by false e = ap (option_map outline_of) (sym (others-found q e))

  bodies-of : (o n : Option Instance) → option_map outline_of o ≡ option_map outline_of n → body_of o ≡ body_of n
  bodies-of None None e = refl
  bodies-of None (Some i) e = absurd (cc)
  bodies-of (Some i) None e = absurd (cc)
  bodies-of (Some i) (Some j) e = let both : (i.body, i.births) ≡ (j.body, j.births) = cc in ap (λ (x : ℕ × ℕ). Some x.0) both

  discipline-same : (x : IpAddr) → discipline s before x ≡ discipline s after x
  discipline-same x = ap (option_map (λ (p : InteractionPoint). p.common)) (point_same s (map.get before x.path) (map.get after x.path) (bodies-of (map.get before x.path) (map.get after x.path) (outlines-same x.path)) x.ip)

  -- an instance of which the record is written
  one-written : (q : Path) (o : Option (trees.Instance Part)) (n : Option Instance) → option_map kept_outline o ≡ option_map outline_of n → rewritten q n o ≡ option_map (kept_of q) n
  one-written q None None e = refl
  one-written q None (Some i) e = absurd (cc)
  one-written q (Some u) None e = absurd (cc)
  one-written q (Some u) (Some i) e =
      let both : (u.part.body, u.births) ≡ (i.body, i.births) = cc in
      ap (λ (x : ℕ × ℕ). Some (record { part = part_of_entry (q, i); births = x.1 })) both

  -- with its records written, the shared state stands for the situation with those of the image
  pub stands-written : (made shared : Shared) → StandsBut s m made a.situation → shared.tree.instances ≡ written image.parts made.tree.instances → shared.links.links ≡ made.links.links
      → shared.queues.queues ≡ made.queues.queues → shared.outputs ≡ made.outputs → Stands s shared (with_records m image.parts a).situation
  stands-written made shared st tree links queues outputs = record {
    instances = λ q. ap (λ t. map.get t q) (tree ∙ ap (λ ps. written ps made.tree.instances) shows.parts) ∙ get-written made.tree.instances own q ∙ at q (is_inside m q) refl;
    links = links ∙ st.links;
    queues = subst (λ qs. AreQueuesOf s (with_records m image.parts a).situation qs) (sym queues)
        (queues-of s (with_records m image.parts a).situation made.queues.queues (filed-alike _ _ _ discipline-same (filed-of s a.situation made.queues.queues st.queues)) st.queues.waiting);
    outputs = outputs ∙ st.outputs;
  }
    where
      at : (q : Path) (b : Bool) → is_inside m q ≡ b → rewritten q (find path_cmp q own) (map.get made.tree.instances q) ≡ option_map (kept_of q) (map.get after q)
      at q true e =
          ap (λ n. rewritten q n (map.get made.tree.instances q)) (own-found q ∙ ap (λ b. cond b (map.get after q) None) e)
          ∙ one-written q (map.get made.tree.instances q) (map.get after q) (st.outlines q ∙ own-outlines q e)
      at q false e =
          ap (λ n. rewritten q n (map.get made.tree.instances q)) (own-found q ∙ ap (λ b. cond b (map.get after q) None) e)
          ∙ st.others q e ∙ ap (option_map (kept_of q)) (sym (others-found q e))
