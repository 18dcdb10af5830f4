-- What a fetch by HTTP has done over its trace (RFC 9112), in terms of its core's calls: our own.
use Rattle.std.specs.Prelude.{◌≡◌, ◌≤◌, ℕ, ◌==◌, ◌&&◌, ◌||◌, Bool, true, false, not, List, [], ◌∷◌, ◌++◌, length, take, nat_lt, Option, Some, None, if◌then◌else◌}
use Rattle.std.specs.Option.{is_some}
use Rattle.nb_terms.specs.declared.cause.Cause.{Cause}
use Rattle.nb_effects.specs.declared.effects.Fx.{Fx}
use Rattle.nb_graph.specs.Trace.{Said, NodeEntry, up, down, closed, time, regain}
use Rattle.nb_conns.specs.declared.stream_tag.StreamTag.TheVariants.{Begin, Received, End}
use Rattle.nb_conns.specs.StreamTags.{stream_tag_number}
use Rattle.nb_conns.specs.ConnEffects.{TookAll, closes_for}
use Rattle.nb_conns.specs.Dialogues.{AsksIdly, HandsOnClose}
use Rattle.nb_responses.specs.Requests.{request_text}
use Rattle.nb_http.specs.Standing.{Core, Kept, HasReadStream, TakesBytes, DecidesLast, EndsStream, is_over}
use Rattle.nb_http.specs.Runs.{Ran}
use Rattle.nb_webnodes.specs.declared.stage.WebStage.{WebStage}
use Rattle.nb_webnodes.specs.declared.stage.WebStage.TheVariants.{Unasked, Fetching, Ended}
use Rattle.nb_webnodes.specs.declared.web.Web.{Web}
use Rattle.nb_webnodes.specs.WebAsks.{AskParts, web_ask_in}
use Rattle.nb_webnodes.specs.WebEffects.{WebCarrier, WebEffects, request_says, gives_says, moves_says, moved_at_end}

-- How far a fetch is: nothing was asked for; this was, and its core is so after it took these bytes of the stream and
-- gave these of the body; the response is decided, and ended so; or it ended otherwise.
pub data WebTalk : Type 0 where
  web_unasked : WebTalk
  fetching : (a : AskParts) (c : Core) (stream given : List ℕ) → WebTalk
  web_decided : (a : AskParts) (c : Core) (stream given : List ℕ) (over : Option Cause) → WebTalk
  cut_short : WebTalk

abbrev pub is_open_web : WebTalk → Bool
is_open_web web_unasked = true
is_open_web (fetching a c stream given) = true
is_open_web (web_decided a c stream given over) = false
is_open_web cut_short = false

-- a message by slot 1 that has bytes of the stream, or is its end
abbrev pub is_from_below : ℕ → ℕ → Said → Bool
is_from_below tag slot m = (slot == 1) && (m.tag == tag)

abbrev pub web_comes : WebTalk → ℕ → Said → Bool
web_comes web_unasked slot m = false
web_comes (fetching a c stream given) slot m = is_from_below (stream_tag_number Received) slot m || is_from_below (stream_tag_number End) slot m
web_comes (web_decided a c stream given over) slot m = false
web_comes cut_short slot m = false

-- a message from above that asks for the fetch
abbrev pub web_asks : WebTalk → Said → Bool
web_asks web_unasked m = (m.tag == stream_tag_number Begin) && is_some (web_ask_in m.a m.bytes)
web_asks (fetching a c stream given) m = false
web_asks (web_decided a c stream given over) m = false
web_asks cut_short m = false

-- an entry that calls nothing of the core
abbrev pub is_quiet_web : {N L : Type 0} → WebTalk → NodeEntry N L → Bool
is_quiet_web d (up slot m now done fx) = done && not (web_comes d slot m)
is_quiet_web d (down m now done fx) = done && not (web_asks d m)
is_quiet_web d (closed slot cause now fx) = not (is_open_web d && nat_lt slot 2)
is_quiet_web d (time now done fx) = done
is_quiet_web d (regain load) = true

-- it ran out of memory, or a port was closed
abbrev pub is_cut_web : {N L : Type 0} → WebTalk → NodeEntry N L → Bool
is_cut_web d (up slot m now done fx) = not done
is_cut_web d (down m now done fx) = not done
is_cut_web d (closed slot cause now fx) = is_open_web d && nat_lt slot 2
is_cut_web d (time now done fx) = false
is_cut_web d (regain load) = false

-- after a call, which may have decided the response
abbrev pub fetched_on : AskParts → Core → List ℕ → List ℕ → Option Cause → WebTalk
fetched_on a c stream given over = if is_some over then web_decided a c stream given over else fetching a c stream given

-- One entry of a fetch. Each call of the core stands in an entry, and an entry makes no other.
pub data Fetched {N L : Type 0} (k : WebCarrier L) : WebTalk → NodeEntry N L → WebTalk → Type 0 where
  -- the connection is asked for, and given the request
  is_begun : (a : AskParts) (c : Core) (m : Said) (now : ℕ) (fx : Fx N L) → m.tag ≡ stream_tag_number Begin → web_ask_in m.a m.bytes ≡ Some a
      → HasReadStream c [] [] → is_over c.state ≡ false → WebEffects k m (request_says m a) [] [] fx
      → Fetched k web_unasked (down m now true fx) (fetching a c [] [])
  -- Bytes of the stream: what is taken is what the core took, none past the byte that decides the response; what goes
  -- up is what it gave, and the text of a move.
  takes_part : (a : AskParts) (c new : Core) (stream given gave : List ℕ) (slot : ℕ) (m : Said) (now : ℕ) (fx : Fx N L) (over : Option Cause)
      → is_from_below (stream_tag_number Received) slot m ≡ true → fx.took ≤ length m.bytes
      → TakesBytes m.rec c new (take fx.took m.bytes) gave over → DecidesLast c (take fx.took m.bytes)
      → WebEffects k m [] (gives_says m.rec gave ++ moves_says m.rec (moved_at_end over new)) (closes_for over) fx
      → Fetched k (fetching a c stream given) (up slot m now true fx) (fetched_on a new (stream ++ take fx.took m.bytes) (given ++ gave) over)
  -- the stream's end
  takes_end : (a : AskParts) (c new : Core) (stream given : List ℕ) (slot : ℕ) (m : Said) (now : ℕ) (fx : Fx N L) (over : Option Cause)
      → is_from_below (stream_tag_number End) slot m ≡ true → EndsStream m.rec c new over → TookAll m fx
      → WebEffects k m [] [] (closes_for over) fx
      → Fetched k (fetching a c stream given) (up slot m now true fx) (web_decided a new stream given over)
  ends_early : (d : WebTalk) (e : NodeEntry N L) → is_cut_web d e ≡ true → HandsOnClose e → Fetched k d e cut_short
  stays_idle : (d : WebTalk) (e : NodeEntry N L) → is_quiet_web d e ≡ true → AsksIdly e → Fetched k d e d

-- the entries lead from one to the other
abbrev pub FetchedTo : {N L : Type 0} → WebCarrier L → WebTalk → List (NodeEntry N L) → WebTalk → Type 0
FetchedTo k d [] f = d ≡ f
FetchedTo k d (e ∷ t) f = (g : WebTalk) × Fetched k d e g × FetchedTo k g t f

-- a core that goes on has taken these bytes of the stream, and given these of the body
pub record ReadsOn (c : Core) (stream given : List ℕ) : Type 0 where
  pub rec : ℕ
  pub ran : Ran rec c stream given None
  pub stands : HasReadStream c stream given
  pub goes_on : is_over c.state ≡ false

-- a core was ended so: by bytes, or by the stream's end
pub data HasAnswered : Core → List ℕ → List ℕ → Option Cause → Type 0 where
  ended_by_bytes : (rec : ℕ) (c : Core) (stream given : List ℕ) (over : Option Cause) → Ran rec c stream given over → is_over c.state ≡ true → HasAnswered c stream given over
  ended_by_stream : (rec : ℕ) (old c : Core) (stream given : List ℕ) (over : Option Cause) → ReadsOn old stream given → EndsStream rec old c over → HasAnswered c stream given over

-- what the object is meanwhile
pub data IsWebAt : WebStage → WebTalk → Type 0 where
  before_begin : IsWebAt Unasked web_unasked
  while_fetching : (h : Kept) (a : AskParts) (c : Core) (stream given : List ℕ) → h.core ≡ c → ReadsOn c stream given → IsWebAt (Fetching h) (fetching a c stream given)
  once_answered : (a : AskParts) (c : Core) (stream given : List ℕ) (over : Option Cause) → HasAnswered c stream given over → IsWebAt Ended (web_decided a c stream given over)
  once_cut : IsWebAt Ended cut_short

-- A fetch stands for a trace whose entries lead from the beginning to where it is.
pub record WebStands {N L : Type 0} (k : WebCarrier L) (p : Web) (t : List (NodeEntry N L)) : Type 0 where
  pub talk : WebTalk
  pub run : FetchedTo k web_unasked t talk
  pub at : IsWebAt p.stage talk

-- wherever the fetch was before an entry, it is afterwards where the entry leads
abbrev pub FetchesOn : {N L : Type 0} → WebCarrier L → WebStage → WebStage → NodeEntry N L → Type 0
FetchesOn k old new e = (d : WebTalk) → IsWebAt old d → (f : WebTalk) × Fetched k d e f × IsWebAt new f

-- a core that was started for this, and its request
pub record WebStarts (a : AskParts) (h : Kept) (text : List ℕ) : Type 0 where
  pub stands : HasReadStream h.core [] []
  pub goes_on : is_over h.core.state ≡ false
  pub request : text ≡ request_text a.host a.conn.peer_port a.path

-- whether a message from below counts, or one from above may, by what the object is
abbrev pub stage_is_fetching : WebStage → Bool
stage_is_fetching Unasked = false
stage_is_fetching (Fetching h) = true
stage_is_fetching Ended = false

abbrev pub stage_takes_web : WebStage → ℕ → ℕ → Said → Bool
stage_takes_web w tag slot m = stage_is_fetching w && is_from_below tag slot m

abbrev pub stage_asks_web : WebStage → Said → Bool
stage_asks_web Unasked m = m.tag == stream_tag_number Begin
stage_asks_web (Fetching h) m = false
stage_asks_web Ended m = false

abbrev pub stage_is_ended : WebStage → Bool
stage_is_ended Unasked = false
stage_is_ended (Fetching h) = false
stage_is_ended Ended = true

-- nothing was asked for yet
abbrev pub IsUnaskedWeb : Web → Type 0
IsUnaskedWeb p = p.stage ≡ Unasked
