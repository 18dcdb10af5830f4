use Rattle.std.proofs.Common.{Some, sym, ◌∙◌, ap, arith}
use Rattle.std.specs.Prelude.{length, option_map}
use Rattle.nb_ibft.specs.Views.{boot_info}
use Rattle.nb_client.specs.Snapshots.{state_of_world}
use Rattle.nb_client.proofs.BootTables.{table_is}
use Rattle.nb_client.proofs.Served.{state_is}
use Rattle.nb_client.proofs.site.Site.boot_table.Goals as goal

pub table-requires : goal.table-requires
table-requires c =
    rw c.in-Some.is at (c.in_ok-info.ensures.short (rw c.as_slice.ensures.value c.in_ok-opens.ensures.fits))

pub returns-in_default : goal.returns-in_default
returns-in_default c =
    let now = c.args.self.now in
    let w = now.world in
    record {
      of_state = λ live are.
          let opens = c.in_ok-opens.ensures.opens w.net w.time (state_of_world w live) (state_is w now.opens live are) in
          rw c.in_default.is at (table_is w live _ (option_map boot_info c.in_ok-info.info) opens (rw (c.mac-mac.ensures, c.as_slice.ensures.value) at c.in_ok-info.ensures.value));
      short = tt;
    }

pub returns : goal.returns
returns c =
    let now = c.args.self.now in
    let w = now.world in
    record {
      of_state = λ live are.
          let opens = c.in_ok-opens.ensures.opens w.net w.time (state_of_world w live) (state_is w now.opens live are) in
          (rw c.in-Some.is at (table_is w live _ (option_map boot_info c.in_ok-info.info) opens (rw (c.mac-mac.ensures, c.as_slice.ensures.value) at c.in_ok-info.ensures.value))) ∙ ap Some (sym c.in_ok-bytes.ensures.value);
      short = omega (arith, ap length c.as_slice-2.ensures, c.if-as_slice-gt-MOST_TABLE.false);
    }
