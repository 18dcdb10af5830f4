use Rattle.std.proofs.Common.{◌<◌, [], ◌∷◌, ℕ, List, arith, length, subst, sym}
use Rattle.std.proofs.lemmas.List.{take_all}
use Rattle.httparse.specs.Grammar.{NeverHasChunkLine}
use Rattle.nb_httpmsg.proofs.FeedLemmas.{open_at_first}
use Rattle.nb_httpmsg.proofs.line.broken_len.Goals as goal

none_never : NeverHasChunkLine [] → ⊥
none_never never = never open_at_first.may.0 open_at_first.may.1 [] open_at_first.may.2

some : (line : List ℕ) → NeverHasChunkLine line → 0 < length line
some [] never = absurd (none_never never)
some (b ∷ line) never = omega arith

pub loop-high-init : goal.loop-high-init
loop-high-init c = record {
  less = some c.args.line.now c.requires;
  within = omega arith;
  may = none_never;
  never = subst NeverHasChunkLine (sym (take_all (length c.args.line.now) c.args.line.now (omega arith))) c.requires;
}
