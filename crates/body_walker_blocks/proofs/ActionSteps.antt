-- The statements of Estelle step by step.
use Rattle.std.proofs.Common.{◌≡◌, ◌∙◌, ℕ, List, map, refl, sym, ap, Option, Some, None, Err}
use Rattle.std.specs.Prelude.{option_map}
use Rattle.estelle_tree.specs.declared.tree.name.Name.{Name}
use Rattle.estelle_tree.specs.declared.tree.expression.Expr.{Expr}
use Rattle.estelle_tree.specs.declared.tree.expression.Args.{Args}
use Rattle.estelle_tree.specs.declared.tree.statement.Ip.{Ip as IpTree}
use Rattle.estelle_tree.specs.Paths.{Path}
use Rattle.estelle_model.specs.declared.denoter.Denoter.{Denoter}
use Rattle.pascal_values.specs.declared.value.Value.{Value}
use Rattle.estelle_tree.specs.declared.link.IpAddr.{IpAddr}
use Rattle.estelle_model.specs.declared.meaning.InteractionKind.{InteractionKind}
use Rattle.estelle_model.specs.declared.meaning.Meaning.{Meaning}
use Rattle.estelle_model.specs.declared.meaning.Meaning.TheVariants.{Module, Ip, Body, Interaction}
use Rattle.estelle_model.specs.declared.place.Environment.{Environment}
use Rattle.estelle_model.specs.States.{Logged, on_log}
use Rattle.estelle_model.specs.Stops.{Broken}
use Rattle.estelle_model.specs.Steps.{Running, ◌>>=◌, checked, spend}
use Rattle.estelle_model.specs.Places.{child_step}
use Rattle.estelle_model.specs.Expressions.{Operand}
use Rattle.estelle_model.specs.Subject.{Subject, child_of}
use Rattle.estelle_model.specs.Actions as estelle
use Rattle.estelle_model.specs.Statements.{Output}
use Rattle.estelle_model.specs.Acts as acts
use Rattle.estelle_model.specs.Acts.{act}
use Rattle.body_values.specs.declared.stop.Stop.TheVariants as stop
use Rattle.body_state.specs.Follows.{carried}
use Rattle.estelle_model.specs.Definitions.{types_received}
use Rattle.body_walker_blocks.specs.Scopes.{Scoped, meanings}
use Rattle.body_walker_blocks.specs.Points.{ip_at}
use Rattle.body_walker_blocks.specs.Labels.{exprs_of}
use Rattle.body_walker_blocks.specs.Walked.{entering, expr, value_arguments, ip_named, part_of_child, connect, disconnect, disconnect_ip, disconnect_module, attach, detach, release, output, init, create}
use Rattle.body_walker_blocks.proofs.PlanSteps.{follow, carried_then}
use Rattle.body_walker_blocks.proofs.Plans.{Plan, First, Given, Last, Check, Refuse, run, Is, Runs, broken}
use Rattle.body_walker_blocks.proofs.StatementSteps.{arguments_out}

module _ (t : Scoped) (h : Environment) where
  -- ---- names

  ip_out : (p : Path) (m : Meaning) → carried (estelle.ip_of t.subject p m) ≡ checked (ip_at p m)
  ip_out p (Ip k) = refl
  ip_out p _ = refl

  pub part_steps : (x p : Name) → Is (part_of_child t h x p) (First (carried (estelle.child_in t.subject h.path (meanings t x))) (λ c. Check (ip_at c (meanings t p))))
  part_steps x p = record {
    is = carried_then (estelle.child_in t.subject h.path (meanings t x)) (λ c. estelle.ip_of t.subject c (meanings t p))
        ∙ (λ i. carried (estelle.child_in t.subject h.path (meanings t x)) >>= λ c. ip_out c (meanings t p) i);
  }

  -- ---- links, of the specification that is known

  pub connect_steps : (p q : IpTree) (s : Subject) → s ≡ t.subject → Is (connect t h p q) (First (ip_named t h p.name p.part) (λ a. First (ip_named t h q.name q.part) (λ b. Last (carried (estelle.connect_points s h.path a b)))))
  unfolding connect act
  connect_steps p q s same = record {
    is = carried_then (estelle.ip_in t.subject h.path (meanings t p.name) (option_map (meanings t) p.part)) (λ a. follow (estelle.ip_in t.subject h.path (meanings t q.name) (option_map (meanings t) q.part)) (λ b. estelle.connect_points t.subject h.path a b))
        ∙ (λ i. ip_named t h p.name p.part >>= λ a. carried_then (estelle.ip_in t.subject h.path (meanings t q.name) (option_map (meanings t) q.part)) (λ b. estelle.connect_points t.subject h.path a b) i)
        ∙ (λ i. ip_named t h p.name p.part >>= λ a. ip_named t h q.name q.part >>= λ b. carried (estelle.connect_points (sym same i) h.path a b));
  }

  pub cut_ip_steps : (x : Name) (part : Option Name) (s : Subject) → s ≡ t.subject → Is (disconnect_ip t h x part) (First (ip_named t h x part) (λ a. Last (carried (estelle.disconnect_point s h.path a))))
  cut_ip_steps x part s same = record { is = λ i. ip_named t h x part >>= λ a. carried (estelle.disconnect_point (sym same i) h.path a) }

  pub cut_module_steps : (k : ℕ) (s : Subject) → s ≡ t.subject → Is (disconnect_module t h k) (First (child_step Logged on_log h.path k) (λ c. Last (carried (estelle.disconnect_child s c))))
  cut_module_steps k s same = record { is = λ i. child_step Logged on_log h.path k >>= λ c. carried (estelle.disconnect_child (sym same i) c) }

  abbrev pub disconnect_plan : Name → Option Name → Meaning → Plan (Unit {0})
  disconnect_plan x (Some p) m = Last (disconnect_ip t h x (Some p))
  disconnect_plan x None (Module k) = Last (disconnect_module t h k)
  disconnect_plan x None m = Last (disconnect_ip t h x None)

  disconnect_out : (x : Name) (part : Option Name) (m : Meaning) → meanings t x ≡ m → carried (estelle.disconnect t.subject h.path (option_map (meanings t) part) m) ≡ run (disconnect_plan x part m)
  unfolding child_step
  disconnect_out x (Some p) m is = carried_then (estelle.ip_in t.subject h.path m (Some (meanings t p))) (λ a. estelle.disconnect_point t.subject h.path a)
      ∙ (λ i. carried (estelle.ip_in t.subject h.path (sym is i) (Some (meanings t p))) >>= λ a. carried (estelle.disconnect_point t.subject h.path a))
  disconnect_out x None (Module k) is = refl
  disconnect_out x None m is = carried_then (estelle.ip_in t.subject h.path m None) (λ a. estelle.disconnect_point t.subject h.path a)
      ∙ (λ i. carried (estelle.ip_in t.subject h.path (sym is i) None) >>= λ a. carried (estelle.disconnect_point t.subject h.path a))

  pub disconnect_steps : (p : IpTree) (o : Option Name) (m : Meaning) → p.part ≡ o → meanings t p.name ≡ m → Is (disconnect t h p) (disconnect_plan p.name o m)
  unfolding disconnect act
  disconnect_steps p o m has is = record { is = (λ i. carried (estelle.disconnect t.subject h.path (option_map (meanings t) (has i)) (is i))) ∙ disconnect_out p.name o m is }

  pub disconnect_part : (p : IpTree) (q : Name) → p.part ≡ Some q → Is (disconnect t h p) (Last (disconnect_ip t h p.name p.part))
  disconnect_part p q has = record { is = (disconnect_steps p (Some q) (meanings t p.name) has refl).is ∙ ap (λ (o : Option Name). disconnect_ip t h p.name o) (sym has) }

  pub disconnect_other : (p : IpTree) (m : Meaning) → p.part ≡ None → meanings t p.name ≡ m → ((k : ℕ) → m ≡ Module k → ⊥) → Is (disconnect t h p) (Last (disconnect_ip t h p.name p.part))
  disconnect_other p (Module k) has is no_module = absurd (no_module k refl)
  disconnect_other p m has is no_module = record { is = (disconnect_steps p None m has is).is ∙ ap (λ (q : Option Name). disconnect_ip t h p.name q) (sym has) }

  pub attach_steps : (p x q : Name) (s : Subject) → s ≡ t.subject → Is (attach t h p x q) (Given (ip_at h.path (meanings t p)) (λ upper. First (part_of_child t h x q) (λ lower. Last (carried (estelle.attach_points s upper lower)))))
  unfolding attach act
  attach_steps p x q s same = record {
    is = carried_then (estelle.ip_of t.subject h.path (meanings t p)) (λ upper. follow (estelle.ip_in t.subject h.path (meanings t x) (Some (meanings t q))) (λ lower. estelle.attach_points t.subject upper lower))
        ∙ (λ i. ip_out h.path (meanings t p) i >>= λ upper. carried_then (estelle.ip_in t.subject h.path (meanings t x) (Some (meanings t q))) (λ lower. estelle.attach_points t.subject upper lower) i)
        ∙ (λ i. checked (ip_at h.path (meanings t p)) >>= λ upper. part_of_child t h x q >>= λ lower. carried (estelle.attach_points (sym same i) upper lower));
  }

  pub detach_steps : (p : Name) (s : Subject) → s ≡ t.subject → Is (detach t h p) (Given (ip_at h.path (meanings t p)) (λ upper. Last (carried (estelle.detach_point s upper))))
  unfolding detach act
  detach_steps p s same = record {
    is = carried_then (estelle.ip_of t.subject h.path (meanings t p)) (estelle.detach_point t.subject)
        ∙ (λ i. ip_out h.path (meanings t p) i >>= λ upper. carried (estelle.detach_point (sym same i) upper));
  }

  -- ---- release

  abbrev pub release_plan : Meaning → Plan (Unit {0})
  release_plan (Module k) = First (child_step Logged on_log h.path k) (λ c. Last (carried (estelle.release_child t.subject h.path k c)))
  release_plan _ = Refuse Broken

  release_out : (m : Meaning) → carried (estelle.release t.subject h.path m) ≡ run (release_plan m)
  unfolding child_step
  release_out (Module k) = refl
  release_out _ = refl

  release_steps : (x : Name) (m : Meaning) → meanings t x ≡ m → Is (release t h x) (release_plan m)
  unfolding release act
  release_steps x m is = record { is = release_out (meanings t x) ∙ ap (λ (k : Meaning). run (release_plan k)) is }

  pub release_walks : (x : Name) (k : ℕ) (s : Subject) → meanings t x ≡ Module k → s ≡ t.subject → Is (release t h x) (First (child_step Logged on_log h.path k) (λ c. Last (carried (estelle.release_child s h.path k c))))
  release_walks x k s is same = record { is = (release_steps x (Module k) is).is ∙ (λ i. child_step Logged on_log h.path k >>= λ c. carried (estelle.release_child (sym same i) h.path k c)) }

  pub release_other : (x : Name) (m : Meaning) → meanings t x ≡ m → ((k : ℕ) → m ≡ Module k → ⊥) → Is (release t h x) (Refuse Broken)
  release_other x (Module k) is no_module = absurd (no_module k refl)
  release_other x m is no_module = release_steps x m is

  -- ---- output

  -- what is no interaction's name breaks a rule
  abbrev pub sent_plan : Subject → List ℕ → List ℕ → Meaning → List Value → IpAddr → Plan (Unit {0})
  sent_plan s ip word (Interaction kind) values a = Last (carried (estelle.output_at s ip word (Interaction kind) values a))
  sent_plan s ip word _ values a = Refuse Broken

  sent_out : (s : Subject) (ip word : List ℕ) (mean : Meaning) (values : List Value) (a : IpAddr) → carried (estelle.output_at s ip word mean values a) ≡ run (sent_plan s ip word mean values a)
  sent_out s ip word (Interaction kind) values a = refl
  sent_out s ip word _ values a = refl

  pub sent_other : {u : Running Logged} (s : Subject) (ip word : List ℕ) (mean : Meaning) (values : List Value) (a : IpAddr) → ((kind : InteractionKind) → mean ≡ Interaction kind → ⊥) → Runs (sent_plan s ip word mean values a) u (Err stop.Broken) u
  sent_other s ip word (Interaction kind) values a no_interaction = absurd (no_interaction kind refl)
  sent_other s ip word _ values a no_interaction = broken

  abbrev pub output_plan : Name → Name → Subject → Meaning → List Denoter → List Expr → Plan (Unit {0})
  output_plan p m s mean ts xs = First (value_arguments t h ts xs) (λ g. First spend (λ u. Given (ip_at h.path (meanings t p)) (λ a. sent_plan s p.word m.word mean g.values a)))

  output_out : (p m : Name) (xs : List Expr) → (value_arguments t h (types_received (meanings t m)) xs >>= λ g. carried (estelle.plan_of t.subject (meanings t) h.path (Output p m) g.values)) ≡ run (output_plan p m t.subject (meanings t m) (types_received (meanings t m)) xs)
  output_out p m xs =
      (λ i. value_arguments t h (types_received (meanings t m)) xs >>= λ g. spend >>= λ u. carried_then (estelle.ip_of t.subject h.path (meanings t p)) (λ a. estelle.output_at t.subject p.word m.word (meanings t m) g.values a) i)
      ∙ (λ i. value_arguments t h (types_received (meanings t m)) xs >>= λ g. spend >>= λ u. ip_out h.path (meanings t p) i >>= λ a. carried (estelle.output_at t.subject p.word m.word (meanings t m) g.values a))
      ∙ (λ i. value_arguments t h (types_received (meanings t m)) xs >>= λ g. spend >>= λ u. checked (ip_at h.path (meanings t p)) >>= λ a. sent_out t.subject p.word m.word (meanings t m) g.values a i)

  pub output_steps : (p m : Name) (es : Option Args) (s : Subject) (mean : Meaning) (ts : List Denoter) (xs : List Expr) → s ≡ t.subject → mean ≡ meanings t m → ts ≡ types_received mean → xs ≡ exprs_of es → Is (output t h p m es) (output_plan p m s mean ts xs)
  unfolding output act
  output_steps p m es s mean ts xs same means types exprs = record {
    is = ap (λ (fs : List (Operand Logged)). acts.act Logged on_log t.subject (meanings t) (entering t h) h (Output p m) fs) (arguments_out t h es)
        ∙ output_out p m (exprs_of es)
        ∙ (λ i. run (output_plan p m (sym same i) (sym means i) (types_received (sym means i)) (sym exprs i)))
        ∙ (λ i. run (output_plan p m s mean (sym types i) xs));
  }

  -- ---- init

  abbrev pub init_plan : Meaning → Meaning → List Expr → Plan (Unit {0})
  init_plan (Module m) (Body k) es = First (value_arguments t h (child_of t.subject k).parameters es) (λ g. Last (create t h m k g.values))
  init_plan _ _ es = Refuse Broken

  init_out : (x b : Meaning) (es : List Expr) → acts.init_of Logged on_log t.subject (meanings t) (entering t h) h.path x b (map (expr t h) es) ≡ run (init_plan x b es)
  unfolding create
  init_out (Module m) (Body k) es = refl
  init_out (Module m) _ es = refl
  init_out _ b es = refl

  init_steps : (x b : Name) (es : Option Args) (m k : Meaning) → meanings t x ≡ m → meanings t b ≡ k → Is (init t h x b es) (init_plan m k (exprs_of es))
  unfolding init act
  init_steps x b es m k is_m is_k = record {
    is = ap (λ (fs : List (Operand Logged)). acts.init_of Logged on_log t.subject (meanings t) (entering t h) h.path (meanings t x) (meanings t b) fs) (arguments_out t h es)
        ∙ init_out (meanings t x) (meanings t b) (exprs_of es)
        ∙ ap (λ (y : Meaning). run (init_plan y (meanings t b) (exprs_of es))) is_m
        ∙ ap (λ (y : Meaning). run (init_plan m y (exprs_of es))) is_k;
  }

  pub init_no_module : (x b : Name) (es : Option Args) (m : Meaning) → meanings t x ≡ m → ((k : ℕ) → m ≡ Module k → ⊥) → Is (init t h x b es) (Refuse Broken)
  init_no_module x b es (Module k) is no_module = absurd (no_module k refl)
  init_no_module x b es m is no_module = init_steps x b es m (meanings t b) is refl

  pub init_no_body : (x b : Name) (es : Option Args) (m : ℕ) (k : Meaning) → meanings t x ≡ Module m → meanings t b ≡ k → ((n : ℕ) → k ≡ Body n → ⊥) → Is (init t h x b es) (Refuse Broken)
  init_no_body x b es m (Body n) is_m is no_body = absurd (no_body n refl)
  init_no_body x b es m k is_m is no_body = init_steps x b es (Module m) k is_m is

  pub init_walks : (x b : Name) (es : Option Args) (m k : ℕ) (ts : List Denoter) (xs : List Expr) → meanings t x ≡ Module m → meanings t b ≡ Body k → ts ≡ (child_of t.subject k).parameters → xs ≡ exprs_of es
      → Is (init t h x b es) (First (value_arguments t h ts xs) (λ g. Last (create t h m k g.values)))
  init_walks x b es m k ts xs is_m is_k types exprs = record {
    is = (init_steps x b es (Module m) (Body k) is_m is_k).is ∙ (λ i. value_arguments t h (sym types i) (sym exprs i) >>= λ g. create t h m k g.values);
  }
