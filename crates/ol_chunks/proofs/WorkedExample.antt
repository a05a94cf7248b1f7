-- A worked example: the text of a configuration, what it gives, and where its pages lie.
use Rattle.std.specs.Prelude.{Bool, Err, List, None, Ok, Option, Some, [], codes, false, refl, true, ℕ, ◌++◌, ◌≡◌, ◌∷◌}
use Rattle.ol_values.specs.Config.{Config, data_pages}
use Rattle.ol_chunks.specs.Places.{space_holding, image_area, is_in, log_area, physical_area, place_in_chunks}
use Rattle.ol_chunks.specs.Places.Part.{Data, Images, Logs, Physical, Reserved}
use Rattle.ol_chunks.specs.Reading.{config_in_text}
use Rattle.ol_chunks.specs.declared.table.Area.{Area}

abbrev config : Config
config = record {
  spaces = record { name = codes "root"; chunks = 100 ∷ [] } ∷ record { name = codes "data1"; chunks = 8 ∷ [] } ∷ [];
  physical_space = 0;
  physical_entries = 8;
  log_space = 0;
  log_files = 3;
  log_file_pages = 20;
  image_limit = 2;
}

abbrev line : List ℕ → List ℕ → List ℕ
line text rest = text ++ (10 ∷ rest)

abbrev text : List ℕ
text = line (codes "space root 100") (line (codes "space data1 8") (line (codes "physlog root 8") (line (codes "logs root 3 20") (line (codes "before 2") []))))

the_reading : config_in_text text ≡ Ok config
the_reading = refl

-- the fourth line is missing, the second space has no chunk, and a number has a leading zero
no_fourth_line : config_in_text (line (codes "space root 100") (line (codes "space data1 8") (line (codes "physlog root 8") []))) ≡ Err 4
no_fourth_line = refl

no_chunk : config_in_text (line (codes "space root 100") (line (codes "space data1") [])) ≡ Err 2
no_chunk = refl

leading_zero : config_in_text (line (codes "space root 0100") []) ≡ Err 1
leading_zero = refl

the_areas : (let areas : Area × Area × Area = (physical_area config, log_area config, image_area config) in areas)
    ≡ (record { chunk = 0; first = 12; count = 8; pages = 2 }, record { chunk = 0; first = 28; count = 3; pages = 20 }, record { chunk = 2; first = 0; count = 2; pages = 1 })
the_areas = refl

data_pages_of : (let counts : ℕ × ℕ = (data_pages config 0, data_pages config 1) in counts) ≡ (12, 8)
data_pages_of = refl

-- of chunk 0 the first 12 pages are reserved, 16 are the physical log and 60 the log files; chunk 2 has the images
the_parts : (let parts : Bool × Bool × Bool × Bool × Bool × Bool = (is_in config Reserved 0 11, is_in config Physical 0 12, is_in config Logs 0 87, is_in config Data 0 88, is_in config Data 1 8, is_in config Images 2 1) in parts)
    ≡ (true, true, true, true, false, true)
the_parts = refl

-- root's data pages are the last 12 of chunk 0
the_places : (let places : Option (ℕ × ℕ) × Option (ℕ × ℕ) × Option (ℕ × ℕ) × Option (ℕ × ℕ) = (place_in_chunks config 0 0, place_in_chunks config 0 11, place_in_chunks config 0 12, place_in_chunks config 1 7) in places)
    ≡ (Some (0, 88), Some (0, 99), None, Some (1, 7))
the_places = refl

the_holders : (let holders : Option ℕ × Option ℕ × Option ℕ = (space_holding config 0, space_holding config 1, space_holding config 2) in holders) ≡ (Some 0, Some 1, None)
the_holders = refl
