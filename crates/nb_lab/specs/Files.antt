-- RFC 1350 and RFC 2347 to 2349: what the TFTP server sends, and what an acknowledgement comes to
use Rattle.std.specs.Prelude.{ℕ, ◌+◌, ◌*◌, ◌==◌, Bool, false, nat_lt, Some, codes, if◌then◌else◌}
use Rattle.nb_tftpmsg.specs.Packets.{Message, block, error, oack}
use Rattle.nb_lab.specs.declared.image.Image.{Image}
use Rattle.nb_lab.specs.declared.hosts.Peer.{Peer}
use Rattle.nb_lab.specs.declared.silence.Silence.{Silence}
use Rattle.nb_lab.specs.declared.transfer.BlockSize.{BlockSize}
use Rattle.nb_lab.specs.declared.transfer.BlockSize.TheVariants.{Plain, Granted}
use Rattle.nb_lab.specs.declared.transfer.FilePart.{FilePart}
use Rattle.nb_lab.specs.declared.transfer.FilePart.TheVariants as part
use Rattle.nb_lab.specs.declared.transfer.Last.{Last}
use Rattle.nb_lab.specs.declared.transfer.Last.TheVariants as last
use Rattle.nb_lab.specs.declared.transfer.Acknowledged.{Acknowledged}
use Rattle.nb_lab.specs.declared.transfer.Acknowledged.TheVariants.{Other, Next, Whole}
use Rattle.nb_lab.specs.declared.transfer.Transfer.{Transfer}
use Rattle.nb_lab.specs.Images.{image_len, image_block}

-- 512 bytes without options; with them 1,000 are granted of the 1,432 that are asked for
abbrev pub size_of_block : BlockSize → ℕ
size_of_block Plain = 512
size_of_block Granted = 1000

-- the packet that is sent: a block has the image's bytes at its place
abbrev pub file_message : FilePart → Message
file_message (part.Options image) = oack (Some 1000) (Some (image_len image.0))
file_message (part.Block image n size) = block n (image_block image.0 (size_of_block size) n)
file_message part.NotFound = error 1 (codes "File not found")

-- the number that acknowledges what was sent last
abbrev pub number_of_last : Last → ℕ
number_of_last last.Options = 0
number_of_last (last.Block n) = n

-- what was sent last
abbrev pub part_by : Image → BlockSize → Last → FilePart
part_by image size last.Options = part.Options image
part_by image size (last.Block n) = part.Block image n size

abbrev pub last_file_part : Transfer → FilePart
last_file_part t = part_by t.image t.size t.last

-- the image ends in what was sent last: in a block that isn't full
abbrev pub ends_in : ℕ → ℕ → Last → Bool
ends_in len size last.Options = false
ends_in len size (last.Block n) = nat_lt len (n * size)

-- nothing was waited for yet
abbrev pub no_silence : Silence
no_silence = record { ticks = 0 }

-- a transfer of an image, by whether options are asked for
abbrev pub transfer_begun : Peer → Image → Bool → Transfer
transfer_begun peer image options = record {
  peer = peer;
  image = image;
  size = if options then Granted else Plain;
  last = if options then last.Options else last.Block 1;
  silence = no_silence;
}

-- the acknowledgement of what was sent last ends the transfer, or is answered by the next block
abbrev pub acknowledged : Transfer → ℕ → Acknowledged
acknowledged t n =
    if n == number_of_last t.last
    then (if ends_in (image_len t.image.0) (size_of_block t.size) t.last then Whole else Next (part.Block t.image (n + 1) t.size))
    else Other

abbrev pub after_acknowledged : Transfer → ℕ → Acknowledged → Transfer
after_acknowledged t n (Next sent) = record t { last = last.Block (n + 1); silence = no_silence }
after_acknowledged t n Whole = t
after_acknowledged t n Other = t
