-- A scan as plain data.
use Rattle.std.specs.Prelude.{List, Option, ℕ}
use Rattle.ol_object_spans.specs.declared.header.Live.{Live}
use Rattle.ol_object_spans.specs.declared.header.Stopped.{Stopped}
use Rattle.ol_object_spans.specs.declared.headers.Headers.{Headers}
use Rattle.ol_object_spans.specs.declared.object.Object as told
use Rattle.ol_object_spans.specs.declared.place.Run.{Run}
use Rattle.ol_object_spans.specs.declared.state.ScanState.{ScanState}

-- headers whose spans have stopped, in order, and the one whose span goes on
pub record HeadersValue : Type 0 where
  pub stopped : List Stopped
  pub live : Option Live

-- how many blocks it was fed, their places, the headers, the objects with the indexes of their first blocks, and the index of the first block outside
pub record ScanValue : Type 0 where
  pub count : ℕ
  pub runs : List Run
  pub headers : HeadersValue
  pub starts : List ℕ
  pub objects : List told.Object
  pub outside : Option ℕ

-- the headers of the struct
abbrev pub headers_value : Headers → HeadersValue
headers_value h = record { stopped = h.stopped.items; live = h.live }

-- the scan of the struct
abbrev pub scan_value : ScanState → ScanValue
scan_value s = record {
  count = s.count;
  runs = s.runs.items;
  headers = headers_value s.headers;
  starts = s.objects.starts.items;
  objects = s.objects.list.items;
  outside = s.outside;
}
