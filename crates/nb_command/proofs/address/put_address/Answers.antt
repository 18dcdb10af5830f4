use Rattle.std.proofs.Common.{sym}
use Rattle.nb_settings.specs.declared.kind.Kind.TheVariants.{Ipv4}
use Rattle.nb_settings.specs.Names.{name_of}
use Rattle.nb_command.proofs.AddressLemmas.{put_or_kept}
use Rattle.nb_command.proofs.address.put_address.Goals as goal

pub returns-clause-others : goal.returns-clause-others
returns-clause-others c = λ block key off.
    put_or_kept c.put_bytes.result (name_of c.in-Some.name) Ipv4 _ c.args.table.now c.put_bytes.new.table c.put_bytes.ensures.ok c.put_bytes.ensures.refused block key
    (rw (sym c.in-Some.ensures.exact) at off)
