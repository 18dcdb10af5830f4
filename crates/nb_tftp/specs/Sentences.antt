-- What a transfer promises of all its calls, by what was received and when
use Rattle.std.specs.Prelude.{◌≡◌, ℕ, ◌+◌, ◌&&◌, ◌||◌, Bool, true, false, List, [], ◌∷◌, ◌++◌, Option, map, filter}
use Rattle.std.specs.List.{list_any}
use Rattle.std.specs.Option.{option_map_or, is_none}
use Rattle.nb_retry.specs.declared.plan.Plan.TheVariants.{Common}
use Rattle.nb_retry.specs.Calls.{fires}
use Rattle.nb_retry.specs.Plans.{firings, waits}
use Rattle.nb_terms.specs.declared.acts.Acts.{Acts}
use Rattle.nb_tftp.specs.declared.answer.Answer.{Answer}
use Rattle.nb_tftp.specs.declared.answer.Answer.TheVariants.{Ignored}
use Rattle.nb_tftp.specs.Asks.{Begun, acts_of, due_acts}
use Rattle.nb_tftp.specs.Decisions.{packet_decided, from_server}
use Rattle.nb_tftp.specs.Received.{Received, packet_in, is_block, is_grant, is_refusal, port_with, size_with}
use Rattle.nb_tftp.specs.Blocks.{count_with, file_with, whole_with}
use Rattle.nb_tftp.specs.History.{Call, came, ticked, Entry, got, last_advance, given, ends_ok, due_of, watched, EachEntry}

-- what a datagram calls for, by the port and the size that are agreed and the number of the last block
abbrev pub answer_to : Bool → Option ℕ → ℕ → ℕ → Received → Answer
answer_to options fixed size last m = option_map_or (packet_decided options fixed size last m.rec m.port) (packet_in m) Ignored

-- what a call asks, by the datagrams that came before it: for a datagram all of it, for a time what
-- the timer's answer asks
abbrev pub asked_in : Bool → Begun → List Received → Call → Acts → Acts
asked_in options b before (came m now) acts =
    acts_of b m.port (answer_to options (port_with options before) (size_with options before) (count_with options before) m)
asked_in options b before (ticked now) acts = due_acts b (port_with options before) (count_with options before) (due_of acts)

abbrev pub AsksSoWith : Bool → Begun → List Entry → Entry → Type 0
AsksSoWith options b before e = e.acts ≡ asked_in options b (got before) e.call e.acts

-- an entry tells the end Ok exactly where it makes the file whole
abbrev pub OkWhereWholeWith : Bool → List Entry → Entry → Type 0
OkWhereWholeWith options before e = ends_ok e.acts ≡ whole_with options (got (before ++ e ∷ []))

-- it answers a request that asked for options: the first OACK does
abbrev pub grants_first : Bool → Option ℕ → Received → Bool
grants_first options fixed m = options && (is_none fixed && is_grant m)

-- it answers the request, or the acknowledgement of the last block
abbrev pub answers_with : Bool → Option ℕ → ℕ → Received → Bool
answers_with options fixed last m =
    grants_first options fixed m || (from_server fixed m.port && (is_block (last + 1) m || is_refusal m))

-- no datagram since the last first sending has answered it
abbrev pub IsUnansweredWith : Bool → ℕ → List Entry → Type 0
IsUnansweredWith options start entries =
    list_any (answers_with options (port_with options (got entries)) (count_with options (got entries))) (watched start entries).heard ≡ false

abbrev pub IfTicked : Call → Type 0 → Type 0
IfTicked (came m now) P = Unit {0}
IfTicked (ticked now) P = P

abbrev pub TriesUnanswered : Bool → ℕ → List Entry → Entry → Type 0
TriesUnanswered options start before e = IfTicked e.call (IsUnansweredWith options start before)

-- the tries since the last first sending stand at the plan's times, over all times since then
abbrev pub FollowsCommonPlan : ℕ → List Entry → Type 0
FollowsCommonPlan start entries =
    filter (λ call. fires call.said) (watched start entries).times
    ≡ firings (watched start entries).since (waits Common) (map (λ call. call.at) (watched start entries).times)

-- The promises to a transfer that was begun so, at a time, with or without options.
pub record MeetsWith (options : Bool) (b : Begun) (start : ℕ) (entries : List Entry) : Type 0 where
  -- the place told last is the number of the file's last block
  pub advance : last_advance entries ≡ count_with options (got entries)
  -- what was delivered is the file, as far as it has come
  pub bytes : given entries ≡ file_with options (got entries)
  -- Ok is told exactly where the file has become whole
  pub whole : EachEntry (OkWhereWholeWith options) [] entries
  -- each call sends, tries for the first time and ends as the datagrams before it say
  pub sending : EachEntry (AsksSoWith options b) [] entries
  -- a try is made, and the tries are given up, at the plan's times and only while no answer has come
  pub tries : FollowsCommonPlan start entries
  pub unanswered : EachEntry (TriesUnanswered options start) [] entries

-- the same where options were asked for
abbrev pub AsksSo : Begun → List Entry → Entry → Type 0
AsksSo b before e = AsksSoWith true b before e

abbrev pub OkWhereWhole : List Entry → Entry → Type 0
OkWhereWhole before e = OkWhereWholeWith true before e

abbrev pub answers : Option ℕ → ℕ → Received → Bool
answers fixed last m = answers_with true fixed last m

abbrev pub IsUnanswered : ℕ → List Entry → Type 0
IsUnanswered start entries = IsUnansweredWith true start entries

abbrev pub Meets : Begun → ℕ → List Entry → Type 0
Meets b start entries = MeetsWith true b start entries
