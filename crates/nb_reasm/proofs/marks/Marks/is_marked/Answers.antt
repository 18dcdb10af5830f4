use Rattle.std.proofs.Common.{ℕ, ◌/◌, ◌%◌, ◌==◌, sym, ap, ◌∙◌, arith}
use Rattle.std.specs.Int.{bit_at}
use Rattle.std.proofs.lemmas.Nat.Bits.{shr_and_one}
use Rattle.nb_reasm.proofs.MarkLemmas.{get_or_any, mark_bit, bit_tested}
use Rattle.nb_reasm.specs.Slots.{slot_mark, mark_of}
use Rattle.nb_reasm.proofs.marks.Marks.is_marked.Goals as goal

pub returns : goal.returns
unfolding slot_mark
returns c =
    bit_tested (slot_mark c.args.self.now.words.items c.args.slot) (mark_bit c.args.self.now.words.items c.args.slot)
    ∙ ap (λ (n : ℕ). mark_of (n == 1)) (sym (shr_and_one c.index.result.now (c.args.slot % 64) ∙ ap (λ (w : ℕ). bit_at w (c.args.slot % 64)) (c.index.ensures ∙ get_or_any c.args.self.now.words.items (c.args.slot / 64) c.index.result.now 0 (omega (arith, c.requires)))))
