pub mod StoresGrow
