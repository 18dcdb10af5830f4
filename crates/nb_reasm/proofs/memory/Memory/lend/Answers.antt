use Rattle.std.proofs.Common.{arith}
use Rattle.nb_reasm.proofs.RoomLemmas.{written_run, run_length, run_byte}
use Rattle.nb_reasm.proofs.memory.Memory.lend.Goals as goal

pub lend-requires : goal.lend-requires
lend-requires c = written_run c.args.self.now.room.bytes c.args.slot c.args.len (omega (arith, c.requires.fits, c.args.self.now.is_sized)) c.requires.written

pub returns-clause-len : goal.returns-clause-len
returns-clause-len c = run_length c.args.self.now.room.bytes c.args.slot c.args.len c.lend.result.now (omega (arith, c.requires.fits, c.args.self.now.is_sized)) c.lend.ensures

pub returns-clause-bytes : goal.returns-clause-bytes
returns-clause-bytes c = λ k l. run_byte c.args.self.now.room.bytes c.args.slot c.args.len c.lend.result.now k (omega (arith, c.requires.fits, c.args.self.now.is_sized)) c.lend.ensures l
