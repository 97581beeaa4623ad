-- What the instructions of Estelle do: by numbers what the statements do by names (ISO/IEC 9074).
use Rattle.std.specs.Prelude.{ℕ, List, Option, Some}
use Rattle.pascal_values.specs.declared.value.Value.{Value}
use Rattle.estelle_tree.specs.declared.link.IpAddr.{IpAddr}
use Rattle.estelle_tree.specs.Paths.{Path}
use Rattle.body_code.specs.declared.instr.Point as point
use Rattle.body_code.specs.declared.instr.Point.TheVariants.{Own, OfChild}
use Rattle.body_code.specs.declared.instr.Ends as ends
use Rattle.body_code.specs.declared.instr.Ends.TheVariants.{Point, Child}
use Rattle.estelle_model.specs.declared.meaning.InteractionKind.{InteractionKind}
use Rattle.estelle_model.specs.declared.meaning.Meaning.TheVariants.{Interaction}
use Rattle.estelle_model.specs.States.{Logged, on_log}
use Rattle.estelle_model.specs.Steps.{Step, Do, ◌>>=◌, ◌>>◌, pure, breaks, spend}
use Rattle.estelle_model.specs.Plans.{carry}
use Rattle.estelle_model.specs.Places.{child_step}
use Rattle.estelle_model.specs.Subject.{Subject, child_of}
use Rattle.estelle_model.specs.Actions.{at, connect_points, disconnect_point, disconnect_child, attach_points, detach_point, output_at, release_child, may_begin}
use Rattle.body_actions.specs.Children.{begins_child}
use Rattle.body_machine.specs.Frames.{deeper_than}

-- a point of the instance, or of the child that a module variable holds
abbrev pub end_at : Path → point.Point → Step Logged IpAddr
end_at p (Own ip) = pure (at p ip)
end_at p (OfChild modvar ip) = child_step Logged on_log p modvar >>= λ c. pure (at c ip)

module _ (s : Subject) where
  abbrev pub connect_ends : Path → point.Point → point.Point → Do Logged
  connect_ends p x y = do
    a ← end_at p x
    b ← end_at p y
    carry Logged on_log (connect_points s p a b)

  -- one point, or each connected one of a child
  abbrev pub disconnect_ends : Path → ends.Ends → Do Logged
  disconnect_ends p (Point x) = end_at p x >>= λ a. carry Logged on_log (disconnect_point s p a)
  disconnect_ends p (Child modvar) = child_step Logged on_log p modvar >>= λ c. carry Logged on_log (disconnect_child s c)

  abbrev pub attach_end : Path → ℕ → point.Point → Do Logged
  attach_end p upper lower = end_at p lower >>= λ b. carry Logged on_log (attach_points s (at p upper) b)

  abbrev pub detach_end : Path → ℕ → Do Logged
  detach_end p upper = carry Logged on_log (detach_point s (at p upper))

  abbrev pub release_in : Path → ℕ → Do Logged
  release_in p modvar = child_step Logged on_log p modvar >>= λ c. carry Logged on_log (release_child s p modvar c)

  abbrev pub output_of : Path → ℕ → Option (List ℕ) → Option InteractionKind → List Value → Do Logged
  output_of p ip (Some word) (Some kind) values = carry Logged on_log (output_at s word kind.word (Interaction kind) values (at p ip))
  output_of p ip _ _ values = breaks

  -- an output takes a unit
  abbrev pub output_with : Path → ℕ → Option (List ℕ) → Option InteractionKind → List Value → Do Logged
  output_with p ip word kind values = spend >> output_of p ip word kind values

  -- the tests, the unit and the depth; then the child is made; its path
  abbrev pub makes_child : Path → ℕ → ℕ → ℕ → List Value → Step Logged Path
  makes_child p frame modvar body values = carry Logged on_log (may_begin s p modvar body values) >>= λ i. deeper_than frame >> begins_child s p modvar i ((child_of s body).with_parameters values)
