use Rattle.std.proofs.Common.{◌∙◌, Some, None, sym, ap}
use Rattle.std.specs.Option.{option_copied}
use Rattle.body_walker_blocks.proofs.HostSteps.{host_of_name, host_of_access}
use Rattle.body_walker_blocks.proofs.hosts.named_host.Goals as goal

pub returns-in-Constant : goal.returns-in-Constant
returns-in-Constant c = λ here. sym (host_of_name c.args.scope.now here c.args.name.now c.args.selectors.now _ (sym c.meaning-meaning.ensures ∙ c.in-Constant.is))

pub returns-in-Called : goal.returns-in-Called
returns-in-Called c = λ here. c.result_host.ensures ∙ sym (host_of_name c.args.scope.now here c.args.name.now c.args.selectors.now _ (sym c.meaning-meaning.ensures ∙ c.in-Called.is))

pub returns-in-None : goal.returns-in-None
returns-in-None c = let x = c.accessed_type.ensures in let y = c.in-None.is in λ here. sym (host_of_access c.args.scope.now here c.args.name.now c.args.selectors.now c.meaning-meaning.result.now None (sym c.meaning-meaning.ensures) c.in_default.not-Constant c.in_default.not-Called (ap option_copied (sym y) ∙ x))

pub returns-in-Some : goal.returns-in-Some
returns-in-Some c = let x = c.accessed_type.ensures in let y = c.in-Some.is in λ here. c.host_of.ensures ∙ sym (host_of_access c.args.scope.now here c.args.name.now c.args.selectors.now c.meaning-meaning.result.now (Some c.in-Some.denoter.now) (sym c.meaning-meaning.ensures) c.in_default.not-Constant c.in_default.not-Called (ap option_copied (sym y) ∙ x))
