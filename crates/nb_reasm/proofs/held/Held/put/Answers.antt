use Rattle.nb_reasm.specs.Windows.{window_of}
use Rattle.nb_reasm.proofs.WindowLemmas.{put_stands}
use Rattle.nb_reasm.proofs.held.Held.put.Goals as goal

pub returns-clause-stands : goal.returns-clause-stands
returns-clause-stands c = put_stands (window_of c.args.self.now.ring) (window_of c.put-new_bytes.new.self) c.args.pos c.args.bytes.now c.put-new_bytes.ensures.same.0 c.put-new_bytes.ensures.held
