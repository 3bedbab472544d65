-- The images of empty disks.
use Rattle.std.specs.Prelude.{[], ◌∷◌}
use Rattle.hb_disks.specs.Images.{Images, Logs, ServerImages}

abbrev pub empty_server : ServerImages
empty_server = record { log = []; area = [] }

-- fes1, ds and one back end
abbrev pub empty_images : Images
empty_images = record { fes = []; servers = empty_server ∷ empty_server ∷ [] }

abbrev pub empty_logs : Logs
empty_logs = record { fes = []; servers = [] ∷ [] ∷ [] }
