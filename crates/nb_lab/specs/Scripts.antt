-- Own: the script that fetches each image, and the START that has it. Images of even numbers come by TFTP, the others by HTTP,
-- and after every fourth all are let go.
use Rattle.std.specs.Prelude.{ℕ, ◌%◌, ◌==◌, List, [], ◌∷◌, ◌++◌, replicate, codes, if◌then◌else◌}
use Rattle.std.specs.List.{flat_map, range_with_len}
use Rattle.std.specs.Fmt.{decimal}
use Rattle.nb_defs.specs.Records.{Start}

abbrev pub scheme_of : ℕ → List ℕ
scheme_of i = if i % 2 == 0 then codes "tftp" else codes "http"

-- the lines for an image
unfoldable pub fetch_lines : ℕ → List ℕ
fetch_lines i =
    codes "imgfetch " ++ scheme_of i ++ codes "://10.0.0.1/" ++ decimal i ++ codes "\n" ++ (if i % 4 == 3 then codes "imgfree\n" else [])

unfoldable pub script_text : ℕ → List ℕ
script_text images = codes "#!ipxe\n" ++ flat_map fetch_lines (range_with_len 0 images) ++ codes "exit\n"

-- the client is 52:54:00:00:00:01 with the address 10.0.0.2, in a net of 24 bits without a gateway and a server of names
unfoldable pub lab_start : ℕ → Start
lab_start images = record {
  mac = 82 ∷ 84 ∷ 0 ∷ 0 ∷ 0 ∷ 1 ∷ [];
  uuid = replicate 16 0;
  key = replicate 32 0;
  arch = 0;
  w = 0;
  ip = 0x0a000002;
  mask = 0xffffff00;
  gateway = 0;
  dns = 0;
  script = script_text images;
}
