-- RFC 9110 and 9112: an open that fetches by HTTP, as its OPEN's target, the whole URL, says
use Rattle.std.specs.Prelude.{ℕ, List, [], Option, None, Result, Ok, Err}
use Rattle.nb_responses.specs.Chunks.{Response}
use Rattle.nb_responses.specs.Requests.{request_text}
use Rattle.nb_readings.specs.Ends.{text_of}
use Rattle.nb_talks.specs.Talking.{Talker}
use Rattle.nb_webs.specs.Webs.{NoTask, web, response_come}
use Rattle.nb_uri.specs.declared.target.UriTarget.{UriTarget}
use Rattle.nb_uri.specs.declared.target.UriTarget.TheVariants.{Tftp, Http, Iscsi}
use Rattle.nb_uri.specs.declared.target.UriError.{UriError}
use Rattle.nb_uri.specs.Resolutions.{resolution}
use Rattle.nb_machine.specs.Lives.{Live}
use Rattle.nb_machine.specs.Connections.{Talking, came_on, connection_of, talk_of, KeepsTalk}

-- the request for what a URL names
abbrev pub request_of_target : Result UriTarget UriError → List ℕ
request_of_target (Ok (Http name port path whole)) = request_text name port path
request_of_target (Ok (Tftp name port path whole)) = []
request_of_target (Ok (Iscsi name port lun disk whole)) = []
request_of_target (Err why) = []

-- the request that an open sends whose target is this URL
abbrev pub request_at : List ℕ → List ℕ
request_at url = request_of_target (resolution None url)

-- it says its request, and ends as the response does
abbrev pub web_at : List ℕ → Talker NoTask
web_at url = web (request_at url)

-- nothing is asked of it
abbrev pub web_talking : List ℕ → Talking NoTask
web_talking url = record { talker = web_at url; reads = came_on }

abbrev pub KeepsWeb : ℕ → Live → Type 0
KeepsWeb isn l = KeepsTalk (web_talking l.target) isn l

-- the response that has come
abbrev pub web_response : ℕ → Live → Response
web_response isn l = response_come isn (talk_of (web_talking l.target) (connection_of isn l) l.exchanges).calls

-- what has come of its body, and the place to which it moves, if it does
abbrev pub web_body : ℕ → Live → List ℕ
web_body isn l = (web_response isn l).bytes

abbrev pub web_move : ℕ → Live → Option (List ℕ)
web_move isn l = text_of (web_response isn l).verdict
