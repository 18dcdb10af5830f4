-- Something comes to one of the opens that live, among the others.
use Rattle.std.specs.Prelude.{◌≡◌, ℕ, ◌+◌, ◌==◌, ◌&&◌, Bool, false, List, [], ◌∷◌, ◌++◌, length, map, Option, Some, None, if◌then◌else◌}
use Rattle.std.specs.List.{AllByRecursion}
use Rattle.nb_graph.specs.Whole.{Objects}
use Rattle.nb_nodes.specs.declared.obj.Obj.{Obj}
use Rattle.nb_defs.specs.Records.{Out, out_texts, step, ended}
use Rattle.nb_traced.specs.Plain.{without_graph}
use Rattle.nb_ledger.specs.declared.event.Way.{Way}
use Rattle.nb_ledger.specs.declared.event.Way.TheVariants.{Time}
use Rattle.nb_stack.specs.Client.{Client}
use Rattle.nb_stack.specs.Bound.{without}
use Rattle.nb_record.specs.Logged.{Logged, Puts}
use Rattle.nb_wire.specs.declared.address.Ip4.{Ip4}
use Rattle.nb_machine.specs.Lives.{OpenInput, time, Live}
use Rattle.nb_machine.specs.States.{bare}
use Rattle.nb_machine.specs.Takings.{Over, AllTake}
use Rattle.nb_chains.specs.declared.chain.Chain.{Chain}
use Rattle.nb_chains.specs.declared.kind.ChainKind.{ChainKind}
use Rattle.nb_chains.specs.declared.kind.ChainKind.TheVariants as chain
use Rattle.nb_teller.specs.Speakers.{carrier_number}
use Rattle.nb_teller.specs.Spelling.{Spelling}
use Rattle.nb_traced.specs.Holdings.{Holdings, GraphObject}
use Rattle.nb_traced.specs.Outputs.{Arrived, Traced, last_step}
use Rattle.nb_open.specs.declared.objects.OpenObjects.{OpenObjects}
use Rattle.nb_open.specs.declared.objects.OpenObjects.TheVariants as objects
use Rattle.nb_network.specs.declared.living.Living.{Living}
use Rattle.nb_open.specs.declared.ended.Ended.{Ended}
use Rattle.nb_open.specs.DriveAnswers.{found_bytes}
use Rattle.nb_open.specs.Ends.{ClosesOpen}
use Rattle.nb_open.specs.Exchanges.{Exchanges}
use Rattle.nb_network.specs.Many.{AreOpensOf, AreSound, FitsHoldings, HasTiedOnlyOf, IsNewestBut, IsLivingOf, Many, bare_open}
use Rattle.nb_network.specs.Takes.{AnswersBy, BeginsWithEntry, KeepsWaiting, TracesOn, arrival, awaited_over, still_awaited}
use Rattle.nb_graph.specs.Noded.{AreNoded}
use Rattle.nb_nodes.specs.Objects.{rank_of_obj}
use Rattle.nb_terms.specs.declared.cause.Cause.{Cause}
use Rattle.nb_network.specs.Drives.{DriveNews, has_answered, news_by, noted, last_read_by}
use Rattle.nb_network.specs.declared.over.HasEnded.{HasEnded}

-- records that are no step, from which the output goes on so
abbrev pub TracesAt : ℕ → Many → ℕ → List Out → List Arrived → Many → ℕ → Type 0
TracesAt n m opens records came m' opens' =
    (waits : List GraphObject) (outs : List Out) (h : Holdings) (so_far : List Arrived) → last_step outs ≡ n → Traced outs h so_far → FitsHoldings m opens waits h →
    TracesOn m opens waits records came m' opens' waits outs h so_far × (last_step (outs ++ records) ≡ n)

-- it stands there, with as many before it
pub record IsOpenAt (list : List Living) (place : ℕ) (o : Living) : Type 0 where
  pub before : List Living
  pub behind : List Living
  pub all : list ≡ before ++ (o ∷ behind)
  pub place_is : length before ≡ place

-- what is known of an open that has ended, where it is awaited
abbrev pub answer_for : Option ℕ → Living → Ended → Spelling → Option HasEnded
answer_for None o e s = None
answer_for (Some k) o e s =
    if o.speaker.number == k
    then Some (record { number = o.speaker.number; cause = e.cause; body = e.body; moved = e.moved; bytes = found_bytes o.objects s.bytes; address = s.address; answered = has_answered o; read = last_read_by o })
    else None

-- the STEP, where one begins
abbrev pub step_records : Option ℕ → List Out
step_records None = []
step_records (Some n) = step n ∷ []

-- What is said of the opens with one that is awaited, or none, goes on: also where the awaited one has ended.
abbrev pub GoesOnSo : (Option ℕ → Many → Type 0) → Option ℕ → Option HasEnded → Many → Many → Type 0
GoesOnSo says awaited answer m m' = (says None m → says None m') × (says awaited m → says (still_awaited awaited answer) m')

-- what is left of an open of which this is noted
abbrev pub left_by : Option Ended → DriveNews → Living → List Living
left_by None heard o = noted heard o ∷ []
left_by (Some e) heard o = []

-- where the next open stands
abbrev pub place_after : Option Ended → ℕ → ℕ
place_after None place = place + 1
place_after (Some e) place = place

-- without the open's port
abbrev pub freed_of : Client → Living → Client
freed_of net o = record net { ports = without (carrier_number o.speaker.carrier) o.speaker.own_port net.ports }

-- An open has ended: what was told of it is put, and its end, it is taken from the list, and its port is free.
abbrev pub EndIsPut : Ended → List Living → Living → List Living → Client → Option ℕ → Option ℕ → Spelling → List Living → Client → Option HasEnded → Logged → Logged → Type 0
EndIsPut e before o behind net begun awaited s list' net' answer old new =
    (list' ≡ before ++ behind) × (net' ≡ freed_of net o) × (answer ≡ answer_for awaited o e s)
    × Puts old new (out_texts (step_records begun) ++ (s.text ++ out_texts (ended o.speaker.number e.cause ∷ [])))

-- What was told of an open of which this is noted is put; so is its end, where it has ended.
abbrev pub EndIsSettled : Option Ended → List Living → Living → List Living → Client → Option ℕ → Option ℕ → DriveNews → Spelling → List Living → Client → Option HasEnded → Logged → Logged → Type 0
EndIsSettled None before o behind net begun awaited heard s list' net' answer old new =
    (list' ≡ before ++ (noted heard o ∷ behind)) × (net' ≡ net) × (answer ≡ None) × Puts old new (out_texts (step_records begun) ++ s.text)
EndIsSettled (Some e) before o behind net begun awaited heard s list' net' answer old new = EndIsPut e before (noted heard o) behind net begun awaited s list' net' answer old new

-- Something comes to this open by this way, or from above, among the others, and what is told of it is put.
pub record ComesAt (suits : Live → Type 0) (came : OpenInput) (way : Option Way) (begun : Option ℕ) (m : Many) (net : Client) (before : List Living) (o : Living) (behind : List Living) (awaited : Option ℕ) (ended : Option Ended) (answer : Option HasEnded) (m' : Many) (net' : Client) (old new : Logged) : Type 0 where
  pub told : Spelling
  pub does : (l : Live) → IsLivingOf m.graph o l → suits l → Exchanges (bare_open o) l came net way m.graph m'.graph told ended
  pub heard : DriveNews
  pub heard_is : (l : Live) → suits l → heard ≡ news_by came told
  pub settles : EndIsSettled ended before o behind net begun awaited heard told m'.list net' answer old new
  pub noded : AreNoded rank_of_obj m'.graph

-- These opens have a time come to them, in order, after the others: what is left of them, and what they put.
pub record TimesGive (m : Many) (net : Client) (opens now : ℕ) (ls : List Live) (awaited : Option ℕ) (answer : Option HasEnded) (m' : Many) (left : List Living) (old new : Logged) : Type 0 where
  pub records : List Out
  pub puts : Puts old new (out_texts records)
  pub after : List Live
  pub over : List Over
  pub takes : AllTake (bare net ∷ []) (time now) ls (without_graph records) after over
  pub lives : AreOpensOf m'.graph left after
  pub answers : AnswersBy answer (awaited_over awaited over)
  pub traces : (n : ℕ) → TracesAt n m opens records (map (λ l. arrival l.number Time n) ls) m' opens
  pub first : (n : ℕ) → BeginsWithEntry (map (λ l. arrival l.number Time n) ls) records

-- it stays what it is
abbrev pub StaysOn : Objects Obj → Objects Obj → Living → Type 0
StaysOn g h o = (l : Live) → IsLivingOf g o l → IsLivingOf h o l

pub record TimesCome (m : Many) (net : Client) (opens now : ℕ) (done rest : List Living) (awaited : Option ℕ) (answer : Option HasEnded) (m' : Many) (net' : Client) (old new : Logged) : Type 0 where
  pub left : List Living
  pub list : m'.list ≡ done ++ left
  pub same_net : net' ≡ record net { ports = net'.ports }
  pub gives : (ls : List Live) → AreOpensOf m.graph rest ls → TimesGive m net opens now ls awaited answer m' left old new
  pub others : AllByRecursion (StaysOn m.graph m'.graph) done
  pub waiting : KeepsWaiting m m'
  pub sound : (w : ℕ) → AreSound w opens net m → AreSound w opens net' m'
  pub same_made : m'.graph.book.made ≡ m.graph.book.made
  pub tied : GoesOnSo HasTiedOnlyOf awaited answer m m'
  pub newest : (c : Chain) → GoesOnSo (λ k z. IsNewestBut k c z) awaited answer m m'

-- The user closes the first of them, and frees its port.
pub record FirstCloses (m : Many) (net : Client) (o : Living) (rest : List Living) (cause : Cause) (m' : Many) (net' : Client) (old new : Logged) : Type 0 where
  pub told : Spelling
  pub closes : ClosesOpen (bare_open o) cause net m.graph m'.graph told
  pub list : m'.list ≡ rest
  pub net_is : net' ≡ freed_of net o
  pub puts : Puts old new (told.text ++ out_texts (ended o.speaker.number cause ∷ []))
  pub noded : AreNoded rank_of_obj m'.graph

-- which messages count for a chain of this kind, which come from its server or not: those, or for a lease all; from the port that its
-- kind has
abbrev pub counts_by_kind : ChainKind → Bool → ℕ → Bool
counts_by_kind chain.File is_server port = is_server
counts_by_kind chain.Name is_server port = is_server && (port == 53)
counts_by_kind chain.Lease is_server port = port == 67
counts_by_kind chain.Echo is_server port = is_server
counts_by_kind chain.Drive is_server port = false

-- which count for an open: those of a connection come from the server's port that is asked
abbrev pub counts_by : OpenObjects → Ip4 → Ip4 → ℕ → Bool
counts_by (objects.Chain kind chain) server source port = counts_by_kind kind (source.0 == server.0) port
counts_by (objects.Web asked own chain) server source port = (source.0 == server.0) && (port == asked)
counts_by (objects.Drive asked own chain) server source port = (source.0 == server.0) && (port == asked)
