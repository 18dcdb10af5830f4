-- RFC 3986, sections 3 and 3.3: the path of a URI, and its segments. Own, after ipxe.org's images: an image is named
-- by the last segment of its URI's path, and by the server where that is empty
use Rattle.std.specs.Prelude.{◌≡◌, ℕ, Bool, ◌==◌, List, [], ◌∷◌, ⊤}
use Rattle.std.specs.List.{before_first, after_first, after_last}
use Rattle.percent_encoding.specs.Percent.{percent_decode}
use Rattle.nb_uri.specs.Pieces.{is_slash}
use Rattle.nb_uri.specs.declared.target.UriTarget.{UriTarget}
use Rattle.nb_uri.specs.declared.target.UriTarget.TheVariants.{Tftp, Http, Iscsi}

abbrev pub is_question_mark : ℕ → Bool
is_question_mark byte = byte == 63

-- what follows the `//` of a URI, without its query
abbrev pub authority_and_path : List ℕ → List ℕ
authority_and_path uri = before_first is_question_mark (after_first is_slash (after_first is_slash uri))

-- the path without its first slash, escaped as it stands in the URI
abbrev pub path_text : List ℕ → List ℕ
path_text uri = after_first is_slash (authority_and_path uri)

-- its last segment
abbrev pub last_path_segment : List ℕ → List ℕ
last_path_segment uri = after_last is_slash (path_text uri)

-- the segment, decoded; the host where it is empty
abbrev pub segment_or_host : List ℕ → List ℕ → List ℕ
segment_or_host [] host = host
segment_or_host (byte ∷ bytes) host = percent_decode (byte ∷ bytes)

-- the name of the image that a URI without a fragment names, by the URI and its host
abbrev pub image_name : List ℕ → List ℕ → List ℕ
image_name uri host = segment_or_host (last_path_segment uri) host

-- a TFTP server is asked for this very path, decoded
abbrev pub AsksForItsPath : UriTarget → Type 0
AsksForItsPath (Tftp host port path whole) = path ≡ percent_decode (path_text whole)
AsksForItsPath (Http host port path whole) = ⊤
AsksForItsPath (Iscsi host port lun name whole) = ⊤
