-- What a lab is to its users, and what comes from it
use Rattle.std.specs.Prelude.{◌≡◌, ℕ, List, [], ◌∷◌, Option, option_and_then}
use Rattle.nb_defs.specs.Records.{In, frame, tick}
use Rattle.nb_lab.specs.declared.answer.Answer.{Answer}
use Rattle.nb_lab.specs.declared.lab.Coming.{Coming}
use Rattle.nb_lab.specs.declared.lab.Coming.TheVariants.{Frame, Tick}
use Rattle.nb_lab.specs.declared.server.Server.{Server}
use Rattle.nb_lab.specs.Answers.{answer_frame}
use Rattle.nb_lab.specs.Servers.{fresh, TakesFrame, server_later, file_again, stream_again}
use Rattle.nb_lab.specs.Transits.{Transit, nothing_sent, sent_if}

-- the servers, the frames on their way, and the frame that came last
pub record LabState : Type 0 where
  pub server : Server
  pub transit : Transit
  pub frame : List ℕ

-- nobody has asked the servers of so many images anything
abbrev pub new_lab : ℕ → LabState
new_lab images = record { server = fresh images; transit = nothing_sent; frame = [] }

-- the servers take a frame of the client, and what they answer is sent
pub record IsGiven (old : LabState) (bytes : List ℕ) (new : LabState) : Type 0 where
  pub answer : Option Answer
  pub taken : TakesFrame old.server bytes answer new.server
  pub sent : new.transit ≡ sent_if old.transit answer
  pub frame : new.frame ≡ old.frame

-- a TICK passes, and what waits for an acknowledgement may be sent again
abbrev pub lab_after_tick : LabState → LabState
lab_after_tick l = record l {
  server = server_later l.server;
  transit = sent_if (sent_if l.transit (option_and_then file_again l.server.transfer)) (option_and_then stream_again l.server.connection);
}

-- a frame comes
abbrev pub after_frame : LabState → Answer → List Answer → LabState
after_frame l answer rest = record l { transit = record l.transit { waiting = rest }; frame = answer_frame answer }

-- once the next record has come: a FRAME where one waits, else a TICK
abbrev pub after_next : LabState → List Answer → LabState
after_next l [] = lab_after_tick l
after_next l (answer ∷ rest) = after_frame l answer rest

-- what has come, as a record
abbrev pub coming_record : Coming → LabState → In
coming_record Frame l = frame l.frame
coming_record Tick l = tick 250

-- that record
abbrev pub next_record : List Answer → In
next_record [] = tick 250
next_record (answer ∷ rest) = frame (answer_frame answer)
