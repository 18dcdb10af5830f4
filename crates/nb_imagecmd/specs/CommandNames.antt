-- own, after ipxe.org's commands: the names by which a script calls the image commands
use Rattle.std.specs.Prelude.{ℕ, List, [], ◌∷◌, Option, codes, find}
use Rattle.std.specs.Str.{bytes_eq}
use Rattle.nb_imagecmd.specs.declared.command_names.ImageCommandName.{ImageCommandName}
use Rattle.nb_imagecmd.specs.declared.command_names.ImageCommandName.TheVariants.{Imgfetch, Initrd, Module}
use Rattle.nb_imagecmd.specs.declared.command_names.ImageCommandName.TheVariants.{Imgselect, Kernel, Imgload}
use Rattle.nb_imagecmd.specs.declared.command_names.ImageCommandName.TheVariants.{Imgexec, Chain, Boot}
use Rattle.nb_imagecmd.specs.declared.command_names.ImageCommandName.TheVariants.{Imgargs, Imgfree, Imgstat}

abbrev pub image_command_text : ImageCommandName → List ℕ
image_command_text Imgfetch = codes "imgfetch"
image_command_text Initrd = codes "initrd"
image_command_text Module = codes "module"
image_command_text Imgselect = codes "imgselect"
image_command_text Kernel = codes "kernel"
image_command_text Imgload = codes "imgload"
image_command_text Imgexec = codes "imgexec"
image_command_text Chain = codes "chain"
image_command_text Boot = codes "boot"
image_command_text Imgargs = codes "imgargs"
image_command_text Imgfree = codes "imgfree"
image_command_text Imgstat = codes "imgstat"

abbrev pub all_image_commands : List ImageCommandName
all_image_commands =
    Imgfetch ∷ Initrd ∷ Module ∷ Imgselect ∷ Kernel ∷ Imgload ∷ Imgexec ∷ Chain ∷ Boot
    ∷ Imgargs ∷ Imgfree ∷ Imgstat ∷ []

-- the image command of a name
unfoldable pub image_command_named : List ℕ → Option ImageCommandName
image_command_named name = find (λ command. bytes_eq name (image_command_text command)) all_image_commands
