-- What the servers of a lab make of the client's output, and what is counted of it.
use Rattle.std.specs.Prelude.{◌≡◌, List, [], ◌∷◌, ◌++◌}
use Rattle.nb_defs.specs.Records.{In, Out, step, sent, text, command, result, script, opened, tried, advanced, ended, graph, part, done}
use Rattle.nb_lab.specs.Labs.{LabState, IsGiven}
use Rattle.nb_lab.specs.Tallies.{Tally, Counts}

-- a frame is given to the servers; another record doesn't reach them
abbrev pub DeliversRecord : LabState → Out → LabState → Type 0
DeliversRecord l (sent bytes) l' = IsGiven l bytes l'
DeliversRecord l (step number) l' = l' ≡ l
DeliversRecord l (text bytes) l' = l' ≡ l
DeliversRecord l (command depth line place expanded words) l' = l' ≡ l
DeliversRecord l (result cause) l' = l' ≡ l
DeliversRecord l (script what depth cause) l' = l' ≡ l
DeliversRecord l (opened number kind server port own target) l' = l' ≡ l
DeliversRecord l (tried number count) l' = l' ≡ l
DeliversRecord l (advanced number place) l' = l' ≡ l
DeliversRecord l (ended number cause) l' = l' ≡ l
DeliversRecord l (graph happens) l' = l' ≡ l
DeliversRecord l (part kind index offset bytes) l' = l' ≡ l
DeliversRecord l (done status) l' = l' ≡ l

-- one record after another
pub data Delivers : LabState → List Out → LabState → Type 0 where
  delivers_none : (l : LabState) → Delivers l [] l
  delivers_more : (l l' l'' : LabState) (o : Out) (outs : List Out) → DeliversRecord l o l' → Delivers l' outs l'' → Delivers l (o ∷ outs) l''

-- the servers have taken the frames of these records, and these are counted after all others
pub record AreDelivered (outs : List Out) (l : LabState) (t : Tally) (l' : LabState) (t' : Tally) : Type 0 where
  pub delivers : Delivers l outs l'
  pub counts : (ins : List In) (before : List Out) → Counts t ins before → Counts t' ins (before ++ outs)
  pub images : t'.images ≡ t.images
