use Rattle.std.proofs.Common.{◌∙◌, ap, refl, sym}
use Rattle.std.specs.Option.{option_map}
use Rattle.nb_nodes.specs.LookupExchanges.{lookup_ask_value}
use Rattle.nb_nodes.proofs.LookupExchangeLemmas.{no_ask_no_lookup, asked_bad, bad_name, lookup_started}
use Rattle.nb_nodes.proofs.cores.DnsCore.begin.Goals as goal

pub returns-in_default-clause-none : goal.returns-in_default-clause-none
returns-in_default-clause-none c = no_ask_no_lookup c.args.bytes.now (sym c.read.ensures ∙ ap (option_map lookup_ask_value) c.in_default.is)

pub returns-in-Ok-clause-some : goal.returns-in-Ok-clause-some
returns-in-Ok-clause-some c = lookup_started c.args.bytes.now (lookup_ask_value c.in-Some.wanted) c.args.now c.in-Ok.dns c.start.new.acts (sym c.in-Some.ensures) c.in-Ok.ensures.good_name c.in-Ok.ensures.query c.in-Ok.ensures.stands

pub returns-in-Ok-clause-simple : goal.returns-in-Ok-clause-simple
returns-in-Ok-clause-simple c = record { few = c.start.ensures.simple.few; no_range = c.start.ensures.simple.gives; above = tt; within = tt }

pub returns-in-Err-clause-none : goal.returns-in-Err-clause-none
returns-in-Err-clause-none c =
    let asked = lookup_ask_value c.in-Some.wanted in
    asked_bad c.args.bytes.now asked (sym c.in-Some.ensures) (bad_name asked.name (c.in-Err.ensures.bad_name refl))
