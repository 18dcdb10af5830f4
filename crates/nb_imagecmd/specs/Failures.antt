-- The causes with which image commands fail, and what refusals of URIs and of the list of images mean for
-- them.
use Rattle.nb_terms.specs.declared.cause.Cause.{Cause}
use Rattle.nb_terms.specs.declared.reason.Large.TheVariants as large
use Rattle.nb_terms.specs.declared.reason.Long.TheVariants as long
use Rattle.nb_terms.specs.declared.reason.Many.TheVariants as many
use Rattle.nb_terms.specs.declared.reason.Plain.TheVariants as plain
use Rattle.nb_terms.specs.declared.reason.Reason.TheVariants as reason
use Rattle.nb_terms.specs.Reasons.{as_cause}
use Rattle.nb_image.specs.declared.error.ImageError.{ImageError}
use Rattle.nb_image.specs.declared.error.ImageError.TheVariants as image_error
use Rattle.nb_uri.specs.declared.target.UriError.{UriError}
use Rattle.nb_uri.specs.declared.target.UriError.TheVariants as uri_error
use Rattle.nb_imagecmd.specs.declared.error.ImageFailure.{ImageFailure}
use Rattle.nb_imagecmd.specs.declared.error.ImageFailure.TheVariants.{NoImage, BadUri, NoScheme, LongPath}
use Rattle.nb_imagecmd.specs.declared.error.ImageFailure.TheVariants.{ManyImages, LargeImages}
use Rattle.nb_imagecmd.specs.declared.error.ImageFailure.TheVariants.{NotBootable, ManyScripts, ManyMoves, NoMemory}

abbrev pub image_cause : ImageFailure → Cause
image_cause NoImage = as_cause (reason.Plain plain.NoImage)
image_cause BadUri = as_cause (reason.Plain plain.BadUri)
image_cause NoScheme = as_cause (reason.Plain plain.NoScheme)
image_cause LongPath = as_cause (reason.TooLong long.Path)
image_cause ManyImages = as_cause (reason.TooMany many.Images)
image_cause LargeImages = as_cause (reason.TooLarge large.Images)
image_cause NotBootable = as_cause (reason.Plain plain.NotBootable)
image_cause ManyScripts = as_cause (reason.TooMany many.Scripts)
image_cause ManyMoves = as_cause (reason.TooMany many.Moves)
image_cause NoMemory = as_cause (reason.Plain plain.NoMemory)

-- what it means that a URI names nothing
abbrev pub unresolved : UriError → ImageFailure
unresolved uri_error.BadUri = BadUri
unresolved uri_error.NoScheme = NoScheme
unresolved uri_error.TooLong = LongPath
unresolved uri_error.NoMemory = NoMemory

-- and that the list doesn't take an image
abbrev pub unlisted : ImageError → ImageFailure
unlisted image_error.TooMany = ManyImages
unlisted image_error.TooLarge = LargeImages
unlisted image_error.NoMemory = NoMemory
