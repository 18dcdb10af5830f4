-- The run ends: the opens that live are closed one after another, and what waits with one of them, or after them all.
use Rattle.std.specs.Prelude.{◌≡◌, ℕ, Bool, true, false, List, [], ◌∷◌, ◌++◌, Option, Some, None}
use Rattle.nb_terms.specs.declared.cause.Cause.{Cause}
use Rattle.nb_defs.specs.Records.{ended, out_texts}
use Rattle.nb_graph.specs.Noded.{AreNoded}
use Rattle.nb_nodes.specs.Objects.{rank_of_obj}
use Rattle.nb_record.specs.Logged.{Logged, Puts}
use Rattle.nb_stack.specs.Client.{Client}
use Rattle.nb_chains.specs.declared.chain.Chain.{Chain}
use Rattle.nb_chains.specs.declared.kind.ChainKind.{ChainKind}
use Rattle.nb_teller.specs.Spelling.{Spelling}
use Rattle.nb_network.specs.declared.living.Living.{Living}
use Rattle.nb_open.specs.declared.objects.OpenObjects.{OpenObjects}
use Rattle.nb_open.specs.declared.objects.OpenObjects.TheVariants as objects
use Rattle.nb_open.specs.Ends.{ShutsWith}
use Rattle.nb_network.specs.Closings.{GivesUpWaiting}
use Rattle.nb_network.specs.Many.{AreSound, Many, bare_open}
use Rattle.nb_network.specs.Steps.{freed_of}

-- what ends now, and what waits on
abbrev pub parted_by : Bool → Option Chain → Option Chain × Option Chain
parted_by true waits = (waits, None)
parted_by false waits = (None, waits)

-- whether what waits ends with the open of its number: nothing does with a connection
abbrev pub ends_beside : OpenObjects → Bool → Bool
ends_beside (objects.Chain kind chain) same = same
ends_beside (objects.Web port own chain) same = false
ends_beside (objects.Drive port own chain) same = false

pub record ShutsFirst (kind : ChainKind) (m : Many) (net : Client) (o : Living) (rest : List Living) (cause : Cause) (waits left : Option Chain) (m' : Many) (net' : Client) (old new : Logged) : Type 0 where
  pub now : Bool
  pub parts : left ≡ (parted_by now waits).1
  pub told : Spelling
  pub shuts : ShutsWith kind (bare_open o) (parted_by now waits).0 cause net m.graph m'.graph told
  pub list : m'.list ≡ rest
  pub net_is : net' ≡ freed_of net o
  pub puts : Puts old new (told.text ++ out_texts (ended o.speaker.number cause ∷ []))
  pub noded : AreNoded rank_of_obj m'.graph

-- nothing waits, or it is given up
abbrev pub LetsWaitingGo : ChainKind → Option Chain → Many → Client → Many → Logged → Logged → Type 0
LetsWaitingGo kind None m net m' old new = (m' ≡ m) × (new ≡ old)
LetsWaitingGo kind (Some c) m net m' old new =
    (text : List ℕ) × Puts old new text × ((w opens : ℕ) → AreSound w opens net m → GivesUpWaiting kind c m opens m' text × AreSound w opens net m')
