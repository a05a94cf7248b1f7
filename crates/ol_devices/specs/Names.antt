-- The names of the files in a folder.
use Rattle.std.specs.Fmt.{decimal}
use Rattle.std.specs.Prelude.{List, codes, ℕ, ◌++◌}

-- the file of a chunk
abbrev pub chunk_name : List ℕ → ℕ → List ℕ
chunk_name dir chunk = dir ++ (codes "/chunk" ++ decimal chunk)

-- the folder of the drives' folders
abbrev pub tapes_name : List ℕ → List ℕ
tapes_name dir = dir ++ codes "/tape"

-- the folder of the volumes of a drive
abbrev pub folder_name : List ℕ → ℕ → List ℕ
folder_name dir drive = dir ++ (codes "/tape/" ++ decimal drive)

-- the file of a volume
abbrev pub volume_name : List ℕ → ℕ → ℕ → List ℕ
volume_name dir drive volume = dir ++ (codes "/tape/" ++ (decimal drive ++ (codes "/" ++ decimal volume)))
