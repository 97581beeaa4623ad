-- The nodes of a walk, as the code refers to them.
use Rattle.std.specs.Prelude.{Option}
use Rattle.std.specs.Option.{option_copied}
use Rattle.tree_visits.specs.declared.node.Within.{Within}
use Rattle.tree_visits.specs.declared.node.Node.{Node}
use Rattle.tree_visits.specs.declared.node.Node.TheVariants as node
use Rattle.tree_visits.specs.Visit.{Visited, Begins, Constants, Types, Variables, ChannelDeclared, HeaderDeclared, BodyDeclared, Ips, ModuleVariables, States, StateSets, RoutineDeclared, Initializes, Transitions, ClauseBegins, BlockBegins, Assigns, Calls, Tests, Counts, Selects, Labels, Inits, Releases, Connects, Disconnects, Attaches, Detaches, Outputs, Around, Visit}
use Rattle.tree_visits.specs.Visits.{routines_in, visit_of}

abbrev pub around : Within → Around
around w = record { header = option_copied w.header; attr = w.attr; span = w.span; routine = option_copied w.routine; received = w.received; delayed = w.delayed }

abbrev pub visited : Node → Visited
visited (node.Begins decls trans) = Begins (routines_in decls.now) trans.now
visited (node.Constants defs) = Constants defs.now
visited (node.Types defs) = Types defs.now
visited (node.Variables vars) = Variables vars.now
visited (node.Channel channel) = ChannelDeclared channel.now
visited (node.Header header) = HeaderDeclared header.now
visited (node.Body name header span) = BodyDeclared name.now header.now span
visited (node.Ips ips) = Ips ips.now
visited (node.ModuleVariables modvars) = ModuleVariables modvars.now
visited (node.States states) = States states.now
visited (node.StateSets sets) = StateSets sets.now
visited (node.Routine routine) = RoutineDeclared routine.now
visited (node.Initializes init) = Initializes init.now
visited (node.Transitions span) = Transitions span
visited (node.ClauseBegins clause) = ClauseBegins clause.now
visited (node.BlockBegins block) = BlockBegins block.now
visited (node.Assigns variable value span) = Assigns variable.now value.now span
visited (node.Calls name args span) = Calls name.now args.now span
visited (node.Tests condition) = Tests condition.now
visited (node.Counts variable first last span) = Counts variable.now first.now last.now span
visited (node.Selects selector) = Selects selector.now
visited (node.Labels labels) = Labels labels.now
visited (node.Inits modvar body args span) = Inits modvar.now body.now args.now span
visited (node.Releases modvar span) = Releases modvar.now span
visited (node.Connects first second span) = Connects first.now second.now span
visited (node.Disconnects ip span) = Disconnects ip.now span
visited (node.Attaches own modvar ip span) = Attaches own.now modvar.now ip.now span
visited (node.Detaches own span) = Detaches own.now span
visited (node.Outputs ip interaction args span) = Outputs ip.now interaction.now args.now span

abbrev pub visit : Within → Node → Visit
visit w n = visit_of (around w) (visited n)
