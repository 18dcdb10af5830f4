use Rattle.std.proofs.Common.{rules, ◌≡◌, ◌<◌, ◌^◌, refl, length, sym, ◌∙◌, ap, subst}
use Rattle.nb_drivenodes.specs.DriveAsks.{drive_ask_in}
use Rattle.nb_open.specs.DriveBytes.{drive_ask_bytes}
use Rattle.nb_open.proofs.DriveBack.{drive_few, drive_joined, drive_reads_back}
use Rattle.nb_open.proofs.drive_bytes.drive_bytes.Goals as goal

module _ (c : goal.In_ok-push_text-6) where
  are : c.push_text-6.new.bytes.items ≡ drive_ask_bytes c.args.ask.now
  are = drive_joined c.args.ask.now c.push_text-6.new.bytes.items
      (rw (c.in_ok-push_text-6.ensures, c.in_ok-push_text-5.ensures, c.in_ok-push_text-4.ensures, c.in_ok-push_text-3.ensures, c.in_ok-push_text-2.ensures, c.in_ok-push_text.ensures, c.in_ok-push_words.ensures.pushed, c.in_ok-extend_from_slice.ensures.items, c.in_ok-bytes.ensures.items, c.conn_bytes.ensures.value) refl)

  long : length c.args.ask.now.words ≡ 8
  long = search rules

  unit : length c.args.ask.now.lun ≡ 8
  unit = search rules

pub returns-clause-readable : goal.returns-clause-readable
returns-clause-readable c =
    ap drive_ask_in (are c)
    ∙ drive_reads_back c.args.ask.now c.conn_bytes.ensures.readable (unit c) (long c) c.push_words.ensures.fit c.requires

pub returns-clause-short : goal.returns-clause-short
returns-clause-short c = subst (λ z. length z < 2 ^ 32) (sym (are c)) (drive_few c.args.ask.now (unit c) (long c) c.requires)
