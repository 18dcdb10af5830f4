-- RFC 9112, section 4, and RFC 9110: the responses of the HTTP server
use Rattle.std.specs.Prelude.{ℕ, ◌+◌, List, [], ◌++◌, take, drop, codes}
use Rattle.std.specs.Fmt.{decimal}
use Rattle.nb_lab.specs.declared.page.Page.{Page}
use Rattle.nb_lab.specs.declared.page.Page.TheVariants.{Found, NotFound, BadRequest}
use Rattle.nb_lab.specs.Images.{image_bytes, image_len, image_piece}

abbrev pub status_text : Page → List ℕ
status_text (Found image) = codes "200 OK"
status_text NotFound = codes "404 Not Found"
status_text BadRequest = codes "400 Bad Request"

-- an image's bytes, or nothing
abbrev pub body_text : Page → List ℕ
body_text (Found image) = image_bytes image.0
body_text NotFound = []
body_text BadRequest = []

abbrev pub page_body_len : Page → ℕ
page_body_len (Found image) = image_len image.0
page_body_len NotFound = 0
page_body_len BadRequest = 0

-- so many bytes of the body, from a place on
abbrev pub body_piece : Page → ℕ → ℕ → List ℕ
body_piece (Found image) from count = image_piece image.0 from count
body_piece NotFound from count = []
body_piece BadRequest from count = []

-- the status line and the fields, with the empty line after them
unfoldable pub head_text : Page → List ℕ
head_text page =
    codes "HTTP/1.1 " ++ status_text page ++ codes "\r\nContent-Length: " ++ decimal (page_body_len page) ++ codes "\r\nConnection: close\r\n\r\n"

-- a whole response
unfoldable pub response_text : Page → List ℕ
response_text page = head_text page ++ body_text page

-- so many of its bytes, from a place on
unfoldable pub response_piece : Page → ℕ → ℕ → List ℕ
response_piece page from count = take count (drop from (response_text page))
