-- What the user does to one open that lives: the others stay as they are. Our own.
use Rattle.std.specs.Prelude.{◌≡◌, ℕ, List, [], ◌∷◌, ◌++◌, Option}
use Rattle.std.specs.List.{AllByRecursion}
use Rattle.nb_terms.specs.declared.cause.Cause.{Cause}
use Rattle.nb_defs.specs.Records.{Out, ended, out_texts}
use Rattle.nb_graph.specs.Noded.{AreNoded}
use Rattle.nb_nodes.specs.Objects.{rank_of_obj}
use Rattle.nb_record.specs.Logged.{Logged, Puts}
use Rattle.nb_sans.specs.Sessions.{ReadTask}
use Rattle.nb_stack.specs.Client.{Client}
use Rattle.nb_machine.specs.Lives.{Live, OpenInput, close, task}
use Rattle.nb_machine.specs.States.{State, with_live}
use Rattle.nb_machine.specs.Takings.{AllTake, Over}
use Rattle.nb_chains.specs.declared.chain.Chain.{Chain}
use Rattle.nb_traced.specs.Plain.{without_graph}
use Rattle.nb_teller.specs.Spelling.{Spelling}
use Rattle.nb_network.specs.declared.living.Living.{Living}
use Rattle.nb_open.specs.Ends.{ClosesOpen}
use Rattle.nb_open.specs.Objects.{AreDriveObjects}
use Rattle.nb_network.specs.declared.over.HasEnded.{HasEnded}
use Rattle.nb_network.specs.Many.{HasNoneTied, HasTiedOnlyOf, IsNewestBut, IsStateOf, Many, bare_open}
use Rattle.nb_network.specs.Steps.{GoesOnSo, freed_of}
use Rattle.nb_network.specs.Takes.{AnswersBy, ClosesFirst, KeepsWaiting, Traces, awaited_over}

-- an open of this number lives
pub record HasOpen (number : ℕ) (list : List Living) : Type 0 where
  pub before : List Living
  pub own : Living
  pub behind : List Living
  pub all : list ≡ before ++ (own ∷ behind)
  pub number_is : own.speaker.number ≡ number

-- and is a drive: no other has its number
pub record HasDrive (number : ℕ) (list : List Living) : Type 0 where
  pub lives : HasOpen number list
  pub drive : AllByRecursion (λ o. o.speaker.number ≡ number → AreDriveObjects o.objects) list

-- This comes to the open of this number, of the machine's, which puts this, and lives on or has ended.
pub record TakesOne (number : ℕ) (came : OpenInput) (now : ℕ) (put : List Out) (m' : Many) (net' : Client) (s : State) : Type 0 where
  pub front : List Live
  pub own : Live
  pub back : List Live
  pub all : s.live ≡ front ++ (own ∷ back)
  pub number_is : own.number ≡ number
  pub after : List Live
  pub over : List Over
  pub takes : AllTake s.devices came (own ∷ []) put after over
  pub state : IsStateOf m' net' now (with_live s (front ++ (after ++ back)))

-- The drive of this number is asked for blocks, where these opens are this state.
pub record AsksOne (blocks : ReadTask) (number : ℕ) (m : Many) (net : Client) (now opens : ℕ) (awaited : Option ℕ) (answer : Option HasEnded) (m' : Many) (net' : Client) (old new : Logged) (s : State) : Type 0 where
  pub records : List Out
  pub puts : Puts old new (out_texts records)
  pub does : TakesOne number (task blocks now) now (without_graph records) m' net' s
  pub answers : AnswersBy answer (awaited_over awaited does.over)
  pub traces : Traces m opens records [] m' opens
  pub waiting : KeepsWaiting m m'
  pub same_made : m'.graph.book.made ≡ m.graph.book.made
  pub tied : GoesOnSo HasTiedOnlyOf awaited answer m m'
  pub newest : (c : Chain) → GoesOnSo (λ k z. IsNewestBut k c z) awaited answer m m'

-- The open is closed with this cause, and its port is free.
pub record ClosesAt (m : Many) (net : Client) (before : List Living) (o : Living) (behind : List Living) (cause : Cause) (m' : Many) (net' : Client) (old new : Logged) : Type 0 where
  pub told : Spelling
  pub closes : ClosesOpen (bare_open o) cause net m.graph m'.graph told
  pub list : m'.list ≡ before ++ behind
  pub net_is : net' ≡ freed_of net o
  pub puts : Puts old new (told.text ++ out_texts (ended o.speaker.number cause ∷ []))
  pub noded : AreNoded rank_of_obj m'.graph

-- So it is of the open of this number, which lives no longer.
pub record ClosesOne (number : ℕ) (cause : Cause) (m : Many) (net : Client) (now opens : ℕ) (m' : Many) (net' : Client) (old new : Logged) : Type 0 where
  pub records : List Out
  pub puts : Puts old new (out_texts records)
  pub closes_first : ClosesFirst cause records
  pub does : (s : State) → IsStateOf m net now s → TakesOne number (close cause) now (without_graph records) m' net' s
  pub gone : (s : State) → (state : IsStateOf m net now s) → (does s state).after ≡ []
  pub traces : Traces m opens records [] m' opens
  pub waiting : KeepsWaiting m m'
  pub tied : HasNoneTied m → HasNoneTied m'
