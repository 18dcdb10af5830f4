use Rattle.std.proofs.Common.{length, take, drop, ap, sym, refl, subst, Some, slice_index, arith}
use Rattle.std.proofs.lemmas.List.{length-drop}
use Rattle.std.specs.Prelude.{IfSome}
use Rattle.nb_record.specs.Notes.{known_reads}
use Rattle.nb_record.specs.Outside.{IsNoted}
use Rattle.nb_record.specs.MemoryLines.{mem_outside}
use Rattle.nb_record.proofs.NoteLemmas.{given_front, no_less, added_noted}
use Rattle.nb_record.proofs.mem_line.MemLineLine.read.Goals as goal

pub returns-clause-ok : goal.returns-clause-ok
returns-clause-ok c =
    let n = c.cut_len-len.result in
    let old = c.args.self.now in
    let now = c.fails_now.new.self in
    let same = c.fails_now.ensures.counted in
    record {
      gave = given_front old.input.items now.input.items c.as_slice.result.now (take n c.copy_front.new.into) old.at now.at n (ap (λ m. m.input.items) same) (ap (λ m. m.at) same)
          c.as_slice.ensures.value c.copy_front.ensures.front;
      taken_stays = ap (λ m. Some m.output.items) same;
      counts = record {
        attach_count = no_less _ _ (ap (λ m. slice_index m.faults 0) same);
        read_count = no_less _ _ (ap (λ m. slice_index m.faults 1) same);
        write_count = no_less _ _ (ap (λ m. slice_index m.faults 2) same);
      };
    }

pub returns-clause-noted : goal.returns-clause-noted
returns-clause-noted c =
    let old = c.args.self.now in
    let notes = ap (λ m. m.notes) c.fails_now.ensures.counted in
    subst (λ x. IfSome (known_reads x) (IsNoted (length c.args.buf.now) (mem_outside old))) (sym notes)
    (added_noted (length c.args.buf.now) (mem_outside old) _ old.notes c.add.new.self (drop old.at old.input.items) old.output.items refl refl refl
    (omega (arith, length-drop old.at old.input.items, c.len.ensures, old.input.ok.0)) (omega (arith, c.len-2.ensures, old.output.ok.0)) refl c.add.ensures)
