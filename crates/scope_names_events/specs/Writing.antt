-- How a list of events grows.
use Rattle.std.specs.Prelude.{[], ◌∷◌, ◌++◌, fold}
use Rattle.scope_rules.specs.declared.event.Event.{Event}
use Rattle.scope_rules.specs.TypeEvents.{Events}

-- one more event
unfoldable pub put : Events → Event → Events
put es e = es ++ e ∷ []

-- one event after another
unfoldable pub write : Events → Events → Events
write = fold put
